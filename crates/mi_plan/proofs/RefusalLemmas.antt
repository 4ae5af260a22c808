-- What refuses a walk.
use Rattle.std.proofs.Common.{◌≡◌, Option, Some, None, Result, Ok, Err, sym, subst}
use Rattle.std.specs.Prelude.{option_map, find}
use Rattle.mi_text.specs.Maps.{Name}
use Rattle.mi_text.specs.Lookups.{Lookups}
use Rattle.mi_base.specs.declared.answers.Fault.{Fault}
use Rattle.mi_base.specs.declared.answers.Cause.{Cause}
use Rattle.mi_schema.specs.TableRows.{Rows, in_key_order}
use Rattle.mi_schema.specs.declared.typed_rows.LaunchConditionRow.{LaunchConditionRow}
use Rattle.mi_model.specs.Texts.{Text}
use Rattle.mi_model.specs.LaunchConditions.{described, is_false, launch_refusal}
use Rattle.mi_plan.specs.Refusals.{IsWalkCause, IsWalkRefusal}

a_cause : (r : Result Text Fault) → IsWalkCause (described r)
a_cause (Ok text) = tt
a_cause (Err fault) = tt

some_launch : {A : Type 0} (f : A → Result Text Fault) (o : Option A) → IsWalkRefusal (option_map (λ x. described (f x)) o)
some_launch f None = tt
some_launch f (Some x) = a_cause (f x)

-- a launch condition
pub launch_ends : (rows : Rows) (L : Lookups) → IsWalkRefusal (launch_refusal rows L)
unfolding launch_refusal
launch_ends rows L = some_launch _ (find (is_false L) (in_key_order (λ (r : Name × LaunchConditionRow). r.0) rows.launch_condition))

pub launch_cause : (rows : Rows) (L : Lookups) (cause : Cause) → Some cause ≡ launch_refusal rows L → IsWalkCause cause
launch_cause rows L cause is = subst IsWalkRefusal (sym is) (launch_ends rows L)
