-- What the planning of a walk leaves of the devices that it asks. (This project's own.)
use Rattle.std.specs.Prelude.{◌≡◌, ℕ, ◌≤◌, Result, Ok, Err}
use Rattle.mi_volume.specs.State.{State, Passes}
use Rattle.mi_source.specs.Paths.{Files}
use Rattle.mi_image.specs.Looks.{OnlyLooks}
use Rattle.mi_plan.specs.declared.error.WalkError.{WalkError}
use Rattle.mi_plan.specs.declared.error.WalkError.TheVariants as walk
use Rattle.mi_plan.specs.declared.error.PhaseError.{PhaseError}
use Rattle.mi_plan.specs.declared.error.PhaseError.TheVariants as phase

-- The devices are only read, and no count falls; n and m are the source's counts.
pub record Asks (told : Type 0) (old new : State) (had has : Files) (n m : ℕ) : Type 0 where
  pub files : has ≡ had
  pub counts : n ≤ m
  pub looks : told → OnlyLooks old new
  pub passes : Passes old new

-- the error of a device comes only where that one failed
abbrev pub FailsOnly : {A : Type 0} → Type 0 → Type 0 → Result A WalkError → Type 0
FailsOnly volume_fails source_fails (Ok x) = Unit {0}
FailsOnly volume_fails source_fails (Err walk.NoMemory) = Unit {0}
FailsOnly volume_fails source_fails (Err walk.Source) = source_fails
FailsOnly volume_fails source_fails (Err walk.Volume) = volume_fails

abbrev pub PhaseFailsOnly : {A : Type 0} → Type 0 → Type 0 → Result A PhaseError → Type 0
PhaseFailsOnly volume_fails source_fails (Ok x) = Unit {0}
PhaseFailsOnly volume_fails source_fails (Err phase.NoMemory) = Unit {0}
PhaseFailsOnly volume_fails source_fails (Err (phase.Fault fault)) = Unit {0}
PhaseFailsOnly volume_fails source_fails (Err phase.Source) = source_fails
PhaseFailsOnly volume_fails source_fails (Err phase.Volume) = volume_fails
