-- A phase, or a step that asks no device.
use Rattle.std.proofs.Common.{subst}
use Rattle.mi_seq.specs.declared.step.Step.{Step}
use Rattle.mi_seq.specs.declared.step.Step.TheVariants as step
use Rattle.mi_plan.specs.Stages.{MayTake}
use Rattle.mi_plan.proofs.ArmLemmas.{takes_result, leaves_result, phase_lengths}
use Rattle.mi_plan.proofs.steps.take.Goals as goal

pub run-requires-clause-may : goal.run-requires-clause-may
run-requires-clause-may g c = subst (λ (s : Step). MayTake s c.args.work.now.world) c.in-Some.ensures.some c.requires.may

pub returns-in-Some-clause-takes : goal.returns-in-Some-clause-takes
returns-in-Some-clause-takes g c = λ v s.
    takes_result (g.V.Volume.state c.args.vol.now).held (g.S.Source.files c.args.src.now) c.args.folder.now c.args.step (step.Phase c.in-Some.phase) c.args.work.now c.run.new.world c.run.result c.in-Some.ensures.some (c.run.ensures.begins c.args.folder.now v s)

pub returns-in-Some-clause-lengths : goal.returns-in-Some-clause-lengths
returns-in-Some-clause-lengths g c = λ s have. phase_lengths (g.S.Source.files c.args.src.now) c.args.work.now c.run.new.world c.run.result (c.run.ensures.lengths s have.0) have

pub returns-in-Some-clause-leaves : goal.returns-in-Some-clause-leaves
returns-in-Some-clause-leaves g c = leaves_result c.args.step (step.Phase c.in-Some.phase) c.args.work.now.world c.run.new.world c.run.result c.in-Some.ensures.some c.run.ensures.leaves

pub returns-in-Ok-clause-takes : goal.returns-in-Ok-clause-takes
returns-in-Ok-clause-takes g c = λ v s. c.in-Ok.ensures.takes (g.V.Volume.state c.args.vol.now).held (g.S.Source.files c.args.src.now)

pub returns-in-Ok-clause-lengths : goal.returns-in-Ok-clause-lengths
returns-in-Ok-clause-lengths g c = λ s have. c.in-Ok.ensures.lengths (g.S.Source.files c.args.src.now) have
