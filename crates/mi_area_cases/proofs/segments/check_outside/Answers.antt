use Rattle.std.proofs.Common.{sym, ◌∙◌}
use Rattle.mi_area_cases.proofs.SegmentLemmas.{one_outside, all_outside}
use Rattle.mi_area_cases.proofs.segments.check_outside.Goals as goal

pub loop-name-preserved : goal.loop-name-preserved
loop-name-preserved c = one_outside c.args.names.now c.loop-name.name-index c.name-item.result c.loop-name-test.true c.name-item.is c.loop-name.invariant (sym c.is_within.ensures ∙ c.if-is_within.false)

pub returns : goal.returns
returns c = all_outside c.args.names.now c.loop-name.name-index c.loop-name-test.false c.loop-name.invariant
