-- The rows of the phase, or its refusal.
use Rattle.std.proofs.Common.{refl}
use Rattle.mi_plan.proofs.ArmLemmas.{phase_went, phase_ended, leaves_seen}
use Rattle.mi_plan.proofs.arms.run.Goals as goal
use Rattle.mi_seq.specs.declared.step.Step.TheVariants as step

pub returns-in-Ok-clause-begins : goal.returns-in-Ok-clause-begins
returns-in-Ok-clause-begins g c = λ folder v s.
    phase_went (g.V.Volume.state c.args.vol.now).held (g.S.Source.files c.args.src.now) folder c.args.phase c.args.world.now.seen c.args.world.now.plan c.plan_phase.new.plan (λ x of handed contents. c.in-Ok.ensures.phase x v s handed of contents)

pub returns-in-Ok-clause-there : goal.returns-in-Ok-clause-there
returns-in-Ok-clause-there g c = λ v s went contents. c.in-Ok.ensures.there v s contents

pub returns-in-Ok-clause-lengths : goal.returns-in-Ok-clause-lengths
returns-in-Ok-clause-lengths g c = λ s have went. c.in-Ok.ensures.lengths s have

pub returns-in-Ok-clause-leaves : goal.returns-in-Ok-clause-leaves
returns-in-Ok-clause-leaves g c = λ _. leaves_seen (step.Phase c.args.phase) c.args.world.now (record c.args.world.now { plan = c.plan_phase.new.plan }) refl refl (λ e. cc) (λ e. cc)

pub returns-in-Err-Fault-clause-begins : goal.returns-in-Err-Fault-clause-begins
returns-in-Err-Fault-clause-begins g c = λ folder v s.
    phase_ended (g.V.Volume.state c.args.vol.now).held (g.S.Source.files c.args.src.now) folder c.args.phase c.args.world.now.seen c.args.world.now.plan c.plan_phase.new.plan c.in-Err-Fault.fault
    (λ x of handed contents. rw c.in-Err-Fault.field-0-is at (c.in-Err-Fault.ensures.phase x v s handed of contents))
