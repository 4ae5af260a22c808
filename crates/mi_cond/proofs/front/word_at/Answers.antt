use Rattle.mi_cond.specs.Fronts.{WantsValue}
use Rattle.mi_cond.proofs.FrontLaws.{wants_word, front_within}
use Rattle.mi_cond.proofs.FrontFinds.{word_found, front_is_name}
use Rattle.mi_cond.specs.Lex.{is_name_byte}
use Rattle.std.proofs.Common.{◌≤◌, length, take, suc, arith}
use Rattle.std.proofs.lemmas.List.{length-take-le}
use Rattle.mi_cond.proofs.front.word_at.Goals as goal

pub word-token-requires : goal.word-token-requires
word-token-requires c = front_is_name c.args.rest.now c.name_length-n.result c.name_length-n.ensures

pub returns : goal.returns
returns c =
    word_found WantsValue c.args.rest.now c.word-token.result c.name_length-n.result c.name_length-n.ensures (omega arith) (λ s such k lt. wants_word s (take (suc k) c.args.rest.now) such) c.word-token.ensures

pub slice_bounds-word-end : goal.slice_bounds-word-end
slice_bounds-word-end c =
    let less = front_within is_name_byte (c.args.rest.now) in
    let within : c.name_length-n.result ≤ length (c.args.rest.now) = omega (arith, c.name_length-n.ensures) in
    omega (arith, length-take-le (c.name_length-n.result) (c.args.rest.now) within)
