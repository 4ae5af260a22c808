use Rattle.std.proofs.Common.{lit<}
use Rattle.mi_model.specs.Assignments.{assigned}
use Rattle.mi_words.proofs.PairLemmas.{pair_is, if_pair}
use Rattle.mi_words.proofs.pairs.pair_in.Goals as goal

pub returns-in-Some : goal.returns-in-Some
returns-in-Some c =
    let split = c.in-Some.ensures.byte (lit< tt) (λ w o f. f) in
    if_pair c.copy_pair.result (c.in-Some.name.now, c.in-Some.value.now) (assigned c.args.word.now) (pair_is c.args.word.now c.in-Some.name.now c.in-Some.value.now split.0 split.1 split.2) c.copy_pair.ensures
