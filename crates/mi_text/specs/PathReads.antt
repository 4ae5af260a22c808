-- What the reader of paths gives.
use Rattle.std.specs.Prelude.{◌≡◌, ℕ, List, Result, Ok, Err}
use Rattle.mi_text.specs.declared.path.PathFault.{PathFault}
use Rattle.mi_text.specs.declared.path.PathError.{PathError}
use Rattle.mi_text.specs.declared.path.PathError.TheVariants as error
use Rattle.mi_text.specs.declared.path.PathText.{PathText}

abbrev pub PathReads : Result PathText PathError → Result (List ℕ) PathFault → Type 0
PathReads (Ok p) read = read ≡ Ok p
PathReads (Err error.NoMemory) read = Unit {0}
PathReads (Err (error.Fault f)) read = read ≡ Err f
