-- The number of a value of the registry. (Component Table, Attributes, msidbComponentAttributesSharedDllRefCount.)
use Rattle.std.specs.Prelude.{ℕ}
use Rattle.mi_base.specs.declared.entry.RegValue.{RegValue}
use Rattle.mi_base.specs.declared.entry.RegValue.TheVariants as value

-- 0 where it is no integer
abbrev pub number_of : RegValue → ℕ
number_of (value.Int n) = n
number_of other = 0
