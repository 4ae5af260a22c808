-- The expanded text, or that it is nested too deep.
use Rattle.std.proofs.Common.{List, ℕ, ap, ◌∙◌}
use Rattle.std.specs.Prelude.{codes}
use Rattle.mi_base.specs.declared.answers.Fault.TheVariants as faults
use Rattle.mi_base.specs.declared.answers.Cause.TheVariants as cause
use Rattle.mi_model.specs.Refusals.{expanded}
use Rattle.mi_model.specs.LaunchConditions.{described}
use Rattle.mi_seq.proofs.LaunchLemmas.{is_described, is_too_deep}
use Rattle.mi_seq.proofs.launch.described.Goals as goal

pub returns-in-Ok : goal.returns-in-Ok
returns-in-Ok g c =
    is_described (g.E.Env.lookups c.args.env.now) c.args.number c.as_str.result.now c.in-Ok.text c.in-Ok.ensures.value
    ∙ ap (λ (d : List ℕ). described (expanded (g.E.Env.lookups c.args.env.now) (codes "LaunchCondition") c.args.number d)) c.as_str.ensures

pub returns-in_ok-table-in-Err-Fault : goal.returns-in_ok-table-in-Err-Fault
returns-in_ok-table-in-Err-Fault g c =
    ap (λ (t : List ℕ). cause.Table (faults.TooDeep t c.args.number)) c.in_ok-table-in-Err-Fault.ensures
    ∙ is_too_deep (g.E.Env.lookups c.args.env.now) c.args.number c.as_str.result.now c.in-Err-Fault.field-0-0 (rw c.in-Err-Fault.field-0-is at c.in-Err-Fault.ensures.value)
    ∙ ap (λ (d : List ℕ). described (expanded (g.E.Env.lookups c.args.env.now) (codes "LaunchCondition") c.args.number d)) c.as_str.ensures
