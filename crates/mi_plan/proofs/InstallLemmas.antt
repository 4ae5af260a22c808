-- InstallFiles, which asks the devices, as a phase.
use Rattle.std.proofs.Common.{◌≡◌, ℕ, true, List, Err, refl}
use Rattle.mi_text.specs.Maps.{Map}
use Rattle.mi_source.specs.Paths.{Files}
use Rattle.mi_volume.specs.State.{State}
use Rattle.mi_model.specs.World.{World, Effect}
use Rattle.mi_seq.specs.declared.phase.Phase.{Phase}
use Rattle.mi_seq.specs.declared.phase.Phase.TheVariants as phases
use Rattle.mi_steps.specs.declared.plan.Plan.{Plan}
use Rattle.mi_installs.specs.declared.error.InstallError.{InstallError}
use Rattle.mi_installs.specs.declared.error.InstallError.TheVariants as install
use Rattle.mi_installs.specs.Installs.{InstallPhase}
use Rattle.mi_installs.specs.Reading.{Reads}
use Rattle.mi_plan.specs.Devices.{Asks, PhaseFailsOnly}
use Rattle.mi_plan.specs.Phases.{IsPlannedPhase, is_install, of_install}

-- the one phase that asks is this
pub is_the_install : (p : Phase) → is_install p ≡ true → p ≡ phases.InstallFiles
is_the_install phases.InstallFiles is = refl
is_the_install phases.ProcessComponents is = cc
is_the_install phases.RemoveRegistryValues is = cc
is_the_install phases.RemoveShortcuts is = cc
is_the_install phases.RemoveEnvironmentStrings is = cc
is_the_install phases.RemoveDuplicateFiles is = cc
is_the_install phases.RemoveFiles is = cc
is_the_install phases.RemoveFolders is = cc
is_the_install phases.CreateFolders is = cc
is_the_install phases.DuplicateFiles is = cc
is_the_install phases.CreateShortcuts is = cc
is_the_install phases.WriteRegistryValues is = cc
is_the_install phases.WriteEnvironmentStrings is = cc
is_the_install phases.PublishProduct is = cc

pub asks_as : (told : Type 0) (old new : State) (had has : Files) (n m : ℕ) → Reads told old new had has n m → Asks told old new had has n m
asks_as told old new had has n m reads = record { files = reads.stays; counts = reads.counts; looks = reads.looks; passes = reads.passes }

-- its answer as that of a phase
pub planned_as : (A : Type 0) (held : Map (List ℕ)) (files : Files) (before after : Plan) (effect : Effect) (w : World) (e : InstallError)
    → InstallPhase held files before after {A = A} effect w (Err e) → IsPlannedPhase {A = A} held files before after effect w (Err (of_install e))
planned_as A held files before after effect w install.NoMemory is = tt
planned_as A held files before after effect w (install.Fault f) is = is
planned_as A held files before after effect w install.Source is = tt
planned_as A held files before after effect w install.Volume is = tt

pub fails_as : (A : Type 0) (v s : Type 0) (e : InstallError) → (e ≡ install.Volume → v) → (e ≡ install.Source → s) → PhaseFailsOnly {A = A} v s (Err (of_install e))
fails_as A v s install.NoMemory volume source = tt
fails_as A v s (install.Fault f) volume source = tt
fails_as A v s install.Source volume source = source refl
fails_as A v s install.Volume volume source = volume refl
