-- How the names of keys and values begin (this project's own).
use Rattle.std.specs.Prelude.{◌≡◌, ℕ, zero, suc, ◌+◌, ◌||◌, Bool, false, List, ◌∷◌, ◌++◌, length, nat_eq, codes, Some}
use Rattle.std.specs.List.{starts_with}
use Rattle.std.specs.FinMap.{get}
use Rattle.mi_text.specs.Maps.{Name}
use Rattle.mi_base.specs.Names.{digit, four_digits}
use Rattle.mi_image.specs.declared.item.Item.{Item}
use Rattle.mi_image.specs.Items.{Items}

-- the names of the keys that begin so
abbrev pub key_front : ℕ → List ℕ → Name
key_front root front = codes "k/" ++ (digit root ∷ front)

-- the names of the values whose key has so many bytes and begins so
abbrev pub value_front : ℕ → ℕ → List ℕ → Name
value_front root size front = codes "v/" ++ (digit root ∷ four_digits size ++ front)

-- no name of an image begins so
abbrev pub NoneBegins : Items → Name → Type 0
NoneBegins items front = (q : Name) (i : Item) → get items q ≡ Some i → starts_with nat_eq q front ≡ false

-- a name of a value of this key, or of a key that has at most so many bytes more and begins so
unfoldable pub begins_within : ℕ → List ℕ → List ℕ → ℕ → Name → Bool
begins_within root key front zero q = starts_with nat_eq q (value_front root (length key) key)
begins_within root key front (suc n) q = begins_within root key front n q || starts_with nat_eq q (value_front root (length key + suc n) front)
