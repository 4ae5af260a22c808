-- LaunchConditions: the first condition that is false refuses the run. (LaunchConditions Action; LaunchCondition Table.)
use Rattle.std.specs.Prelude.{not, Bool, find, codes, Option, option_map, Result, Ok, Err}
use Rattle.mi_text.specs.Maps.{Name}
use Rattle.mi_text.specs.Lookups.{Lookups}
use Rattle.mi_cond.specs.Value.{value}
use Rattle.mi_schema.specs.declared.typed_rows.LaunchConditionRow.{LaunchConditionRow}
use Rattle.mi_model.specs.Texts.{Text}
use Rattle.mi_base.specs.declared.answers.Fault.{Fault}
use Rattle.mi_base.specs.declared.answers.Cause.{Cause}
use Rattle.mi_base.specs.declared.answers.Cause.TheVariants.{Table, Launch as LaunchCause}
use Rattle.mi_schema.specs.TableRows.{Rows, Numbered, in_key_order}
use Rattle.mi_model.specs.Refusals.{expanded}

abbrev pub described : Result Text Fault → Cause
described (Ok text) = LaunchCause text
described (Err fault) = Table fault

abbrev pub is_false : Lookups → Numbered (Name × LaunchConditionRow) → Bool
is_false L n = not (value n.row.1.condition L)

-- the first false one in key order, with its description
unfoldable pub launch_refusal : Rows → Lookups → Option Cause
launch_refusal rows L =
    option_map (λ (n : Numbered (Name × LaunchConditionRow)). described (expanded L (codes "LaunchCondition") n.number n.row.1.description))
    (find (is_false L) (in_key_order (λ (r : Name × LaunchConditionRow). r.0) rows.launch_condition))
