use Rattle.std.proofs.Common.{◌∙◌, arith, sym}
use Rattle.mi_undo.proofs.DecodeLemmas.{blob_none, blob_short, blob_there}
use Rattle.mi_undo.proofs.decode.read_span.Goals as goal

pub returns-in_default-clause-value : goal.returns-in_default-clause-value
returns-in_default-clause-value g c = λ told all. blob_none _ (sym c.in_default.is ∙ c.in_ok-len.ensures.value told)

pub returns-then-len-saturating_sub-clause-value : goal.returns-then-len-saturating_sub-clause-value
returns-then-len-saturating_sub-clause-value g c = λ told all. blob_short c.args.at c.in-Some.len c.args.total _ (sym c.in-Some.is ∙ c.in_ok-len.ensures.value told) all (omega (arith, c.if-len-saturating_sub.true, c.saturating_sub.ensures))

pub returns-clause-value : goal.returns-clause-value
returns-clause-value g c = λ told all. blob_there c.args.at c.in-Some.len c.args.total _ (sym c.in-Some.is ∙ c.in_ok-len.ensures.value told) all (omega (arith, c.if-len-saturating_sub.false, c.saturating_sub.ensures))
