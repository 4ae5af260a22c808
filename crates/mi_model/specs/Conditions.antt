-- Conditions and attributes of rows. (Conditional Statement Syntax; Component Table and Feature Table, Attributes.)
use Rattle.std.specs.Prelude.{ℕ, ℤ, not, Bool, true, Option, Some, None}
use Rattle.mi_text.specs.Lookups.{Lookups}
use Rattle.mi_cond.specs.Tree.{Tree}
use Rattle.mi_cond.specs.Value.{value}
use Rattle.mi_rows.specs.Values.{lacks}

-- a condition that is null, or true
abbrev pub holds : Lookups → Option Tree → Bool
holds L None = true
holds L (Some condition) = value condition L

-- an attribute is set
abbrev pub has : ℕ → ℤ → Bool
has bit attributes = not (lacks bit attributes)
