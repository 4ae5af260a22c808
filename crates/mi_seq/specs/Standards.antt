-- The standard actions as one table, and what each does where it stands. (Standard Actions Reference.)
use Rattle.std.specs.Prelude.{◌≡◌, List, [], ◌∷◌, ◌++◌, map, codes, Result, Ok}
use Rattle.mi_text.specs.Maps.{Name}
use Rattle.mi_base.specs.declared.answers.Fault.{Fault}
use Rattle.mi_model.specs.Sequence.{is_costed, is_inside}
use Rattle.mi_model.specs.Steps as model
use Rattle.mi_model.specs.Steps.{without_effect, in_order}
use Rattle.mi_seq.specs.declared.phase.Phase as phases
use Rattle.mi_seq.specs.declared.phase.Phase.TheVariants as phase
use Rattle.mi_seq.specs.declared.standard.Standard.{Standard}
use Rattle.mi_seq.specs.declared.standard.Standard.TheVariants as standard
use Rattle.mi_seq.specs.declared.standard.Entry.{Entry}
use Rattle.mi_seq.specs.Meaning.{effect, phase_action}

abbrev pub entry_as : Entry → Name × Standard
entry_as e = (e.name.now, e.standard)

abbrev pub all_phases : List phases.Phase
all_phases =
    phase.ProcessComponents ∷ phase.RemoveRegistryValues ∷ phase.RemoveShortcuts ∷ phase.RemoveEnvironmentStrings ∷ phase.RemoveDuplicateFiles
    ∷ phase.RemoveFiles ∷ phase.RemoveFolders ∷ phase.CreateFolders ∷ phase.InstallFiles ∷ phase.DuplicateFiles ∷ phase.CreateShortcuts
    ∷ phase.WriteRegistryValues ∷ phase.WriteEnvironmentStrings ∷ phase.PublishProduct ∷ []

abbrev pub phase_entry : phases.Phase → Name × Standard
phase_entry p = (phase_action p, standard.Phase p)

abbrev pub plain_entry : Name → Name × Standard
plain_entry name = (name, standard.Plain)

-- all of them
unfoldable pub standard_actions : List (Name × Standard)
standard_actions =
    (codes "LaunchConditions", standard.Launch)
    ∷ (codes "CostFinalize", standard.Cost)
    ∷ (codes "InstallInitialize", standard.Initialize)
    ∷ (codes "InstallExecute", standard.Execute)
    ∷ (codes "InstallExecuteAgain", standard.Execute)
    ∷ (codes "InstallFinalize", standard.Finalize)
    ∷ (map phase_entry all_phases ++ map plain_entry without_effect)

-- what it does behind these begun actions
abbrev pub does : Standard → List Name → Name → Result model.Step Fault
does standard.Launch begun action = Ok model.Launch
does standard.Cost begun action = Ok model.Cost
does standard.Initialize begun action = in_order action (is_costed begun) model.Plain
does standard.Execute begun action = in_order action (is_inside begun) model.Ends
does standard.Finalize begun action = in_order action (is_inside begun) model.Ends
does (standard.Phase p) begun action = in_order action (is_inside begun) (model.Runs (effect p))
does standard.Plain begun action = Ok model.Plain

-- an action that is told by what it does has its name
abbrev pub IsNamed : Standard → Name → Type 0
IsNamed standard.Launch action = action ≡ codes "LaunchConditions"
IsNamed standard.Cost action = action ≡ codes "CostFinalize"
IsNamed standard.Initialize action = action ≡ codes "InstallInitialize"
IsNamed standard.Execute action = Unit {0}
IsNamed standard.Finalize action = action ≡ codes "InstallFinalize"
IsNamed (standard.Phase p) action = action ≡ phase_action p
IsNamed standard.Plain action = Unit {0}
