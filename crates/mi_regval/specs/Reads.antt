-- What the readers of values give.
use Rattle.std.specs.Prelude.{◌≡◌, Result, Ok, Err}
use Rattle.mi_base.specs.declared.entry.RegValue.{RegValue}
use Rattle.mi_regval.specs.declared.change.Change.{Change}
use Rattle.mi_regval.specs.declared.error.ValueFault.{ValueFault}
use Rattle.mi_regval.specs.declared.error.ValueError.{ValueError}
use Rattle.mi_regval.specs.declared.error.ValueError.TheVariants as error

abbrev pub ValueReads : Result RegValue ValueError → Result RegValue ValueFault → Type 0
ValueReads (Ok v) read = read ≡ Ok v
ValueReads (Err error.NoMemory) read = Unit {0}
ValueReads (Err (error.Fault f)) read = read ≡ Err f

abbrev pub ChangeReads : Result Change ValueError → Result Change ValueFault → Type 0
ChangeReads (Ok c) read = read ≡ Ok c
ChangeReads (Err error.NoMemory) read = Unit {0}
ChangeReads (Err (error.Fault f)) read = read ≡ Err f
