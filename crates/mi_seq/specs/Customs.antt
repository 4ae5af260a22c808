-- Custom actions, as the program takes them. (CustomAction table; Summary List of All Custom Action Types.)
use Rattle.std.specs.Prelude.{◌≡◌, ℕ, List, codes, Option, Result, Ok, Err}
use Rattle.mi_text.specs.Maps.{Name}
use Rattle.mi_text.specs.Lookups.{Lookups}
use Rattle.mi_base.specs.declared.answers.Fault.TheVariants as faults
use Rattle.mi_schema.specs.declared.typed_rows.CustomActionRow.{CustomActionRow}
use Rattle.mi_schema.specs.TableRows.{Numbered}
use Rattle.mi_model.specs.Steps as model
use Rattle.mi_model.specs.Refusals.{expanded_or_empty}
use Rattle.mi_seq_rows.specs.declared.custom.Custom.{Custom}
use Rattle.mi_seq_rows.specs.declared.custom.Custom.TheVariants.{Error, SetDir, SetProperty}
use Rattle.mi_seq.specs.declared.refusal.Why.TheVariants.{TooDeep}
use Rattle.mi_seq.specs.declared.refusal.Stop.{Stop}
use Rattle.mi_seq.specs.declared.refusal.Stop.TheVariants.{NoMemory, Refused}
use Rattle.mi_seq.specs.declared.step.Step.{Step}
use Rattle.mi_seq.specs.declared.step.Step.TheVariants as step

abbrev pub numbered : ℕ → CustomActionRow → Numbered CustomActionRow
numbered number row = record { number = number; row = row }

-- what it does with its Source and its expanded Target
abbrev pub custom_means : Custom → Name → List ℕ → model.Step
custom_means Error source text = model.Fails text
custom_means SetDir source text = model.SetDirectory source text
custom_means SetProperty source text = model.SetProperty source text

abbrev pub step_with : Custom → Name → Name → List ℕ → Step
step_with Error action source text = step.Error action text
step_with SetDir action source text = step.SetDir action source text
step_with SetProperty action source text = step.SetProperty action source text

-- the program's answer is the expanded text, or that it is nested too deep
abbrev pub IsExpanded : Lookups → ℕ → Option (List ℕ) → Result (List ℕ) Stop → Type 0
IsExpanded L row text (Ok t) = expanded_or_empty L (codes "CustomAction") row text ≡ Ok t
IsExpanded L row text (Err (Refused why)) = (why ≡ TooDeep row) × (expanded_or_empty L (codes "CustomAction") row text ≡ Err (faults.TooDeep (codes "CustomAction") row))
IsExpanded L row text (Err NoMemory) = Unit {0}
