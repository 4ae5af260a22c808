-- Refusals of the selection as those of CostFinalize. (This project's own.)
use Rattle.mi_wishes.specs.declared.error.SelectError.{SelectError}
use Rattle.mi_wishes.specs.declared.error.SelectError.TheVariants as select
use Rattle.mi_world.specs.declared.error.WorldError.{WorldError}
use Rattle.mi_world.specs.declared.error.WorldError.TheVariants as error

abbrev pub from_select : SelectError → WorldError
from_select select.NoMemory = error.NoMemory
from_select (select.Fault fault) = error.Fault fault
