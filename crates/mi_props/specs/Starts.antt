-- What an answer says of a fault; want of memory alone is free.
use Rattle.std.specs.Prelude.{Result, Ok, Err}
use Rattle.mi_props.specs.declared.props.PropFault.{PropFault}
use Rattle.mi_props.specs.declared.props.PropError.{PropError}
use Rattle.mi_props.specs.declared.props.PropError.TheVariants as error

-- where the answer is a fault, this holds of it
abbrev pub IfFault : {X : Type 0} → Result X PropError → (PropFault → Type 0) → Type 0
IfFault (Ok x) P = Unit {0}
IfFault (Err error.NoMemory) P = Unit {0}
IfFault (Err (error.Fault f)) P = P f
