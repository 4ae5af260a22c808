-- Names that are no longer than a bound. (This project's own.)
use Rattle.std.specs.Prelude.{◌≡◌, ℕ, ◌≤◌, List, length, None}
use Rattle.std.specs.FinMap.{get}
use Rattle.mi_text.specs.Maps.{Name, Map}
use Rattle.mi_text.specs.Folded.{value_at_fold}

-- nothing stands at a name of so many bytes or more
abbrev pub AreWithin : {X : Type 0} → ℕ → Map X → Type 0
AreWithin bound m = (name : Name) → bound ≤ length name → get m name ≡ None

-- no fold of a name of so many bytes or more stands in the table
abbrev pub AreFoldedWithin : {X : Type 0} → ℕ → List (Name × X) → Type 0
AreFoldedWithin bound items = (name : Name) → bound ≤ length name → value_at_fold items name ≡ None
