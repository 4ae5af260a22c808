-- What the calls answer.
use Rattle.std.specs.Prelude.{◌≡◌, ℕ, List, Result, Ok, Err}
use Rattle.mi_format.specs.declared.error.FormatFault.{FormatFault}
use Rattle.mi_format.specs.declared.error.FormatError.{FormatError}
use Rattle.mi_format.specs.declared.error.FormatError.TheVariants as error
use Rattle.mi_format.specs.declared.error.LimitFault.{LimitFault}
use Rattle.mi_format.specs.declared.error.LimitError.{LimitError}
use Rattle.mi_format.specs.declared.error.LimitError.TheVariants as limited

-- the answer is this expansion or fault, or want of memory
abbrev pub Expands : Result (List ℕ) FormatError → Result (List ℕ) FormatFault → Type 0
Expands (Ok value) e = e ≡ Ok value
Expands (Err error.NoMemory) e = Unit {0}
Expands (Err (error.Fault f)) e = e ≡ Err f

abbrev pub ExpandsWithin : Result (List ℕ) LimitError → Result (List ℕ) LimitFault → Type 0
ExpandsWithin (Ok value) e = e ≡ Ok value
ExpandsWithin (Err limited.NoMemory) e = Unit {0}
ExpandsWithin (Err (limited.Fault f)) e = e ≡ Err f
