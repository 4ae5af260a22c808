-- The end, or what the step makes.
use Rattle.std.proofs.Common.{sym, ◌∙◌}
use Rattle.mi_plan.proofs.ArmLemmas.{stepped_end, stepped_result}
use Rattle.mi_plan.proofs.DeviceLemmas.{asks_none}
use Rattle.mi_plan.proofs.steps.step_on.Goals as goal

pub returns-then-ended-clause-steps : goal.returns-then-ended-clause-steps
returns-then-ended-clause-steps g c =
    stepped_end g.V.Volume.told g.S.Source.told (g.V.Volume.state c.args.vol.now).held (g.S.Source.files c.args.src.now) c.args.folder.now c.args.step c.args.work.now (sym c.is_end-ended.ensures ∙ c.if-ended.true)

pub returns-then-ended-clause-asks : goal.returns-then-ended-clause-asks
returns-then-ended-clause-asks g c = asks_none g.V.Volume.told (g.V.Volume.state c.args.vol.now) (g.S.Source.files c.args.src.now) (g.S.Source.faults c.args.src.now)

pub returns-else-ended-clause-steps : goal.returns-else-ended-clause-steps
returns-else-ended-clause-steps g c =
    let e = c.begin.ensures in
    stepped_result g.V.Volume.told g.S.Source.told (g.V.Volume.state c.args.vol.now).held (g.S.Source.files c.args.src.now) c.args.folder.now c.args.step c.args.work.now c.begin.new.work c.begin.result (sym c.is_end-ended.ensures ∙ c.if-ended.false)
    e.steps e.there e.lengths e.ends e.begun e.leaves e.former
