-- Touches: what rows do to a map, name by name. (This project's own.)
use Rattle.std.specs.Prelude.{Bool, not, if◌then◌else◌, List, [], ◌∷◌, ◌++◌, Option, None}
use Rattle.std.specs.FinMap.{get, retain_keys}
use Rattle.mi_text.specs.Maps.{Name, same_name, Map, set_to, each_name}

-- A touch changes what stands at one name, or takes away whatever stands at some names.
pub data Touch (X : Type 0) : Type 0 where
  Set : (name : Name) → (change : Option X → Option X) → Touch X
  Clear : (goes : Name → Bool) → Touch X

-- what the touches leave at a name where this stood: those at the name, in order
abbrev pub left_at : {X : Type 0} → Name → List (Touch X) → Option X → Option X
left_at q [] old = old
left_at q (Set n f ∷ ts) old = left_at q ts (if same_name q n then f old else old)
left_at q (Clear p ∷ ts) old = left_at q ts (if p q then None else old)

abbrev pub names_of : {X : Type 0} → List (Touch X) → List Name
names_of [] = []
names_of (Set n f ∷ ts) = n ∷ names_of ts
names_of (Clear p ∷ ts) = names_of ts

-- the map after the touches, each name by itself
unfoldable pub after_touches : {X : Type 0} → Map X → List (Touch X) → Map X
after_touches m ts = each_name m (names_of ts) (λ q old. left_at q ts old)

-- ---- one after the other

-- the map after one touch
abbrev pub touched : {X : Type 0} → Map X → Touch X → Map X
touched m (Set n f) = set_to m n (f (get m n))
touched m (Clear p) = retain_keys m (λ q. not (p q))

-- the map after the touches, one after the other: the same as `after_touches`, which takes each name by itself
abbrev pub by_touch : {X : Type 0} → Map X → List (Touch X) → Map X
by_touch m [] = m
by_touch m (t ∷ ts) = by_touch (touched m t) ts

-- the touches of rows that look at what the earlier rows left
abbrev pub along : {R X : Type 0} → (Map X → R → List (Touch X)) → Map X → List R → List (Touch X)
along touches m [] = []
along touches m (r ∷ rows) = touches m r ++ along touches (by_touch m (touches m r)) rows
