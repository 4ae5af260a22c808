-- Tables whose keys are folded, as those of environment variables are.
use Rattle.std.specs.Prelude.{ℕ, List, Option}
use Rattle.std.specs.List.Sorted.{IsStrictlySortedBy}
use Rattle.std.specs.Map.{keys_of, lookup}
use Rattle.mi_text.specs.Fold.{folded}
use Rattle.mi_text.specs.Maps.{Name, name_cmp, same_name}

-- each key is below those behind it, by bytes
abbrev pub KeysRise : {X : Type 0} → List (Name × X) → Type 0
KeysRise items = IsStrictlySortedBy name_cmp (keys_of items)

-- what stands at the fold of a name
abbrev pub value_at_fold : {X : Type 0} → List (Name × X) → List ℕ → Option X
value_at_fold items name = lookup (same_name (folded name)) items
