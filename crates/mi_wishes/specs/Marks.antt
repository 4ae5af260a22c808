-- Marks of rows, and those of the rows above them.
use Rattle.std.specs.Prelude.{◌≡◌, ℕ, zero, suc, ◌<◌, Bool, true, false, if◌then◌else◌, List, Option, Some, None, slice_get, option_and_then, unwrap_or, set}

abbrev pub is_marked : List Bool → ℕ → Bool
is_marked marks row = unwrap_or (slice_get marks row) false

abbrev pub with_mark : Option ℕ → List Bool → List Bool
with_mark None marks = marks
with_mark (Some row) marks = set marks row true

-- with the parent of this row marked, if it is
abbrev pub with_parent : (ℕ → Option ℕ) → List Bool → ℕ → List Bool
with_parent parent marks row = if is_marked marks row then with_mark (parent row) marks else marks

-- so many parents up from a row
abbrev pub climbed : (ℕ → Option ℕ) → ℕ → ℕ → Option ℕ
climbed parent zero row = Some row
climbed parent (suc n) row = option_and_then (climbed parent n) (parent row)

-- the marked rows, and the rows above them
pub record IsMarkedUp (parent : ℕ → Option ℕ) (rows : ℕ) (old new : List Bool) : Type 0 where
  pub kept : (row : ℕ) → is_marked old row ≡ true → is_marked new row ≡ true
  pub up : (row p : ℕ) → row < rows → is_marked new row ≡ true → parent row ≡ Some p → is_marked new p ≡ true
  pub only : (row : ℕ) → is_marked new row ≡ true → (below : ℕ) × (n : ℕ) × (is_marked old below ≡ true) × (climbed parent n below ≡ Some row)
