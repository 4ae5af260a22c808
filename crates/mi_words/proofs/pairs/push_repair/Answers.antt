use Rattle.std.proofs.Common.{sym, ◌∙◌}
use Rattle.mi_words.proofs.PairLemmas.{repaired}
use Rattle.mi_words.proofs.pairs.push_repair.Goals as goal

pub returns : goal.returns
returns c = repaired c.push_pair-2.result c.args.pairs.now.items c.push_pair.new.pairs.items c.push_pair-2.new.pairs.items c.as_str.result.now c.args.letters.now (sym c.is_empty.ensures ∙ c.if-is_empty.false) c.in_ok-push_pair.ensures (c.as_str.ensures ∙ c.in_ok-mode.ensures) c.push_pair-2.ensures
