-- The first condition that is false, or none.
use Rattle.std.proofs.Common.{sym, ap, ◌∙◌}
use Rattle.mi_schema.specs.declared.package.Package.{Package}
use Rattle.mi_schema.specs.RowsOf.{rows_in}
use Rattle.mi_model.specs.LaunchConditions.{launch_refusal}
use Rattle.mi_world.specs.Seen.{seen_lookups}
use Rattle.mi_plan.proofs.ArmLemmas.{launch_went, launch_ended}
use Rattle.mi_plan.proofs.RefusalLemmas.{launch_cause}
use Rattle.mi_plan.proofs.arms.launch.Goals as goal

pub returns-in-Some-clause-begins : goal.returns-in-Some-clause-begins
returns-in-Some-clause-begins c = λ held files folder. launch_ended held files folder c.args.world.now c.in-Some.cause
    (sym c.in-Some.is ∙ c.in_ok-cause.ensures ∙ ap (λ (p : Package). launch_refusal (rows_in p) (seen_lookups c.args.world.now.seen)) c.package.ensures)

pub returns-in-None-clause-begins : goal.returns-in-None-clause-begins
returns-in-None-clause-begins c = λ held files folder. launch_went held files folder c.args.world.now
    (sym c.in-None.is ∙ c.in_ok-cause.ensures ∙ ap (λ (p : Package). launch_refusal (rows_in p) (seen_lookups c.args.world.now.seen)) c.package.ensures)

pub returns-in-Some-clause-ends : goal.returns-in-Some-clause-ends
returns-in-Some-clause-ends c = launch_cause (rows_in c.args.world.now.seen.loaded) (seen_lookups c.args.world.now.seen) c.in-Some.cause
    (sym c.in-Some.is ∙ c.in_ok-cause.ensures ∙ ap (λ (p : Package). launch_refusal (rows_in p) (seen_lookups c.args.world.now.seen)) c.package.ensures)
