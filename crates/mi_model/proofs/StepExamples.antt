-- Steps of the sequence and their refusals, by computation. (InstallExecuteSequence Table; Custom Action Types.)
use Rattle.std.proofs.Common.{◌≡◌, List, [], ◌∷◌, None, refl}
use Rattle.mi_base.specs.declared.answers.Fault.{Fault}
use Rattle.std.specs.Prelude.{Result, ℕ, pos, codes, Ok, Err}
use Rattle.mi_base.specs.declared.answers.Fault.TheVariants.{UnknownAction, Executable, SequenceOrder}
use Rattle.mi_schema.specs.declared.typed_rows.CustomActionRow.{CustomActionRow}
use Rattle.mi_schema.specs.TableRows.{Rows}
use Rattle.mi_model.specs.Texts.{Text}
use Rattle.mi_model.specs.Phases.{effect_of, phases}
use Rattle.mi_model.specs.Steps.{Step, Plain, Cost, Ends, without_effect, step_of}
use Rattle.mi_model.proofs.FeatureExamples.{rows_of, asked}

abbrev action : Text → ℕ → CustomActionRow
action name kind = record { action = name; kind = pos kind; source = None; target = None }

abbrev rows : Rows
rows = record (rows_of []) { custom_action = action (codes "Run1") 1 ∷ action (codes "Late") 1075 ∷ [] }

abbrev step : List Text → Text → Result Step Fault
step begun name = step_of rows (asked (λ n. [])) begun name

abbrev inside : List Text
inside = codes "CostFinalize" ∷ codes "InstallInitialize" ∷ []

cost_finalize : step [] (codes "CostFinalize") ≡ Ok Cost
unfolding step_of
cost_finalize = refl

plain : step [] (codes "CostInitialize") ≡ Ok Plain
unfolding step_of effect_of phases without_effect
plain = refl

-- a phase stands between InstallInitialize and InstallFinalize
outside : step (codes "CostFinalize" ∷ []) (codes "WriteRegistryValues") ≡ Err (SequenceOrder (codes "WriteRegistryValues"))
unfolding step_of effect_of phases
outside = refl

ends : step inside (codes "InstallFinalize") ≡ Ok Ends
unfolding step_of
ends = refl

before_cost_finalize : step [] (codes "InstallInitialize") ≡ Err (SequenceOrder (codes "InstallInitialize"))
unfolding step_of
before_cost_finalize = refl

no_action : step inside (codes "Nowhere") ≡ Err (UnknownAction (codes "Nowhere"))
unfolding step_of effect_of phases without_effect
no_action = refl

-- a type that runs code, and one that is deferred
runs_code : step inside (codes "Run1") ≡ Err (Executable (codes "Run1"))
unfolding step_of effect_of phases without_effect
runs_code = refl

is_deferred : step inside (codes "Late") ≡ Err (Executable (codes "Late"))
unfolding step_of effect_of phases without_effect
is_deferred = refl
