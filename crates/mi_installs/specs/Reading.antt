-- What calls leave that only read a volume and a source. (This project's own.)
use Rattle.std.specs.Prelude.{◌≡◌, ◌≤◌, ℕ, Result, Ok, Err}
use Rattle.mi_source.specs.Paths.{Files}
use Rattle.mi_volume.specs.State.{State, Passes}
use Rattle.mi_image.specs.Looks.{OnlyLooks}
use Rattle.mi_installs.specs.declared.error.InstallError.{InstallError}
use Rattle.mi_installs.specs.declared.error.InstallError.TheVariants as error

-- what the volume holds and may leave stays where it is told, time goes on there, the source's files stay, and its count of faults
-- doesn't fall
pub record Reads (told : Type 0) (old new : State) (files after : Files) (faults counted : ℕ) : Type 0 where
  pub looks : told → OnlyLooks old new
  pub passes : Passes old new
  pub stays : after ≡ files
  pub counts : faults ≤ counted

-- a call that judges rows is refused by no row, and a device's fault has its cause
abbrev pub Causes : {A : Type 0} → Type 0 → Type 0 → Result A InstallError → Type 0
Causes source volume (Ok done) = Unit {0}
Causes source volume (Err error.NoMemory) = Unit {0}
Causes source volume (Err (error.Fault f)) = ⊥
Causes source volume (Err error.Source) = source
Causes source volume (Err error.Volume) = volume
