-- The single changes that touches make, in order. (This project's own.)
use Rattle.std.specs.Prelude.{filter, List, [], ◌∷◌, ◌++◌, map, Option, None}
use Rattle.std.specs.FinMap.{get, keys}
use Rattle.mi_text.specs.Maps.{Name, Map, set_to}
use Rattle.mi_changes.specs.Touches.{Touch, Set, Clear, touched}

-- this stands at the name from now on, or nothing
pub record Change (X : Type 0) : Type 0 where
  pub at : Name
  pub after : Option X

-- the map after the changes, one after the other
abbrev pub written : {X : Type 0} → Map X → List (Change X) → Map X
written m [] = m
written m (c ∷ cs) = written (set_to m c.at c.after) cs

abbrev pub gone : {X : Type 0} → Name → Change X
gone n = record { at = n; after = None }

-- the changes of one touch: where it takes names away, it takes those that are held, in byte order
abbrev pub changes_of : {X : Type 0} → Map X → Touch X → List (Change X)
changes_of m (Set n f) = record { at = n; after = f (get m n) } ∷ []
changes_of m (Clear p) = map gone (filter p (keys m))

-- the changes of the touches, each over the map that the earlier ones leave
abbrev pub changes : {X : Type 0} → Map X → List (Touch X) → List (Change X)
changes m [] = []
changes m (t ∷ ts) = changes_of m t ++ changes (touched m t) ts

-- the changes of a map that spell changes of another one, each looked up in the map so far
abbrev pub spelled_all : {X Y : Type 0} → (Map Y → Change X → List (Change Y)) → Map Y → List (Change X) → List (Change Y)
spelled_all spelled d [] = []
spelled_all spelled d (c ∷ cs) = spelled d c ++ spelled_all spelled (written d (spelled d c)) cs
