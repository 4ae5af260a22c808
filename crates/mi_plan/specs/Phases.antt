-- What is planned of a whole phase, or its refusal. (Standard Actions Reference.)
use Rattle.std.specs.Prelude.{◌≡◌, ℕ, Bool, true, false, List, Result, Ok, Err}
use Rattle.mi_text.specs.Maps.{Map}
use Rattle.mi_source.specs.Paths.{Files}
use Rattle.mi_model.specs.World.{World, Effect}
use Rattle.mi_model.specs.PhaseRows.{phase_rows}
use Rattle.mi_model.specs.Plans.{Plans}
use Rattle.mi_steps.specs.declared.plan.Plan.{Plan}
use Rattle.mi_steps.specs.Makes.{plan_machine}
use Rattle.mi_seq.specs.declared.phase.Phase.{Phase}
use Rattle.mi_seq.specs.declared.phase.Phase.TheVariants.{InstallFiles}
use Rattle.mi_installs.specs.declared.error.InstallError.{InstallError}
use Rattle.mi_installs.specs.declared.error.InstallError.TheVariants as install
use Rattle.mi_plan.specs.declared.error.PhaseError.{PhaseError}
use Rattle.mi_plan.specs.declared.error.PhaseError.TheVariants.{NoMemory, Fault, Source, Volume}

-- exactly what its rows touch, or exactly its refusal; nothing is said where memory is wanted or a device fails
abbrev pub IsPlannedPhase : {A : Type 0} → Map (List ℕ) → Files → Plan → Plan → Effect → World → Result A PhaseError → Type 0
IsPlannedPhase held files before after effect w (Ok done) = Plans files effect w (plan_machine held files after) before.script after.script
IsPlannedPhase held files before after effect w (Err NoMemory) = Unit {0}
IsPlannedPhase held files before after effect w (Err (Fault f)) = phase_rows effect w ≡ Err f
IsPlannedPhase held files before after effect w (Err Source) = Unit {0}
IsPlannedPhase held files before after effect w (Err Volume) = Unit {0}

-- the one phase that asks the devices
abbrev pub is_install : Phase → Bool
is_install InstallFiles = true
is_install other = false

-- its error
abbrev pub of_install : InstallError → PhaseError
of_install install.NoMemory = NoMemory
of_install (install.Fault f) = Fault f
of_install install.Source = Source
of_install install.Volume = Volume
