-- How the writer joins parts, and how keys are compared by their written forms.
use Rattle.std.specs.Prelude.{ℕ, ◌+◌, ◌==◌, Bool, if◌then◌else◌, List, [], ◌∷◌, ◌++◌, Option, Some, None}
use Rattle.std.specs.List.{list_any}
use Rattle.std.specs.Str.{bytes_eq}
use Rattle.std.specs.Cmp.Lexicographic.{pointwise}

-- the tab before the part of a place; the first has none
abbrev pub separator : ℕ → List ℕ
separator place = if place == 0 then [] else 9 ∷ []

-- the parts from a place on, each behind its tab
abbrev pub tabbed : ℕ → List (List ℕ) → List ℕ
tabbed place [] = []
tabbed place (part ∷ parts) = separator place ++ (part ++ tabbed (place + 1) parts)

-- the first row whose key is among those before, by a test of two keys
abbrev pub repeat_by : {X : Type 0} → (X → X → Bool) → List X → ℕ → List X → Option ℕ
repeat_by same seen row [] = None
repeat_by same seen row (key ∷ keys) = if list_any (same key) seen then Some row else repeat_by same (seen ++ key ∷ []) (row + 1) keys

-- the same of texts
abbrev pub repeat_of : List (List ℕ) → ℕ → List (List ℕ) → Option ℕ
repeat_of = repeat_by bytes_eq

-- and of lists of fields
abbrev pub same_fields : List (List ℕ) → List (List ℕ) → Bool
same_fields = pointwise bytes_eq
