-- What the parts of the reader answer.
use Rattle.std.specs.Prelude.{◌≡◌, Option, Some, None, Result, Ok, Err}
use Rattle.mi_text.specs.declared.answers.IdtFault.{IdtFault}
use Rattle.mi_idt.specs.declared.table.IdtError.{IdtError}
use Rattle.mi_idt.specs.declared.table.IdtError.TheVariants as error

-- the error is the first fault; want of memory may come at any time
abbrev pub IsFirst : IdtError → Option IdtFault → Type 0
IsFirst error.NoMemory first = Unit {0}
IsFirst (error.Fault f) first = first ≡ Some f

-- no fault and a value of which a fact holds, or the first fault
abbrev pub ReadsPart : {X : Type 0} → Result X IdtError → Option IdtFault → (X → Type 0) → Type 0
ReadsPart (Ok x) first P = (first ≡ None) × P x
ReadsPart (Err e) first P = IsFirst e first

-- no fault, or the first one
abbrev pub fault_of : {X : Type 0} → Result X IdtFault → Option IdtFault
fault_of (Ok x) = None
fault_of (Err f) = Some f
