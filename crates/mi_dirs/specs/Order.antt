-- Orders in which each row stands behind its parent.
use Rattle.std.specs.Prelude.{◌≡◌, ℕ, suc, ◌<◌, true, false, List, length, take, Option, Some, slice_get, slice_index, Contains}
use Rattle.std.specs.Option.{option_flatten}
use Rattle.mi_dirs.specs.Chains.{ends_in}

abbrev pub parent_in : List (Option ℕ) → ℕ → Option ℕ
parent_in parents row = option_flatten (slice_get parents row)

-- each parent is a row
abbrev pub AreRows : (ℕ → Option ℕ) → ℕ → Type 0
AreRows parent rows = (row p : ℕ) → parent row ≡ Some p → p < rows

-- rows, none of them twice, each behind its parent
pub record IsOrdered (parent : ℕ → Option ℕ) (rows : ℕ) (order : List ℕ) : Type 0 where
  pub within : (k : ℕ) → k < length order → slice_index order k < rows
  pub once : (j k : ℕ) → j < length order → k < length order → slice_index order j ≡ slice_index order k → j ≡ k
  pub after : (k p : ℕ) → k < length order → parent (slice_index order k) ≡ Some p → Contains (take k order) p

-- each row exactly once, behind its parent
pub record IsOrder (parent : ℕ → Option ℕ) (rows : ℕ) (order : List ℕ) : Type 0 where
  pub ordered : IsOrdered parent rows order
  pub whole : (row : ℕ) → row < rows → Contains order row

-- the first row whose chain of parents doesn't end
pub record IsFirstEndless (parent : ℕ → Option ℕ) (rows row : ℕ) : Type 0 where
  pub is_row : row < rows
  pub endless : ends_in parent (suc rows) row ≡ false
  pub first : (k : ℕ) → k < row → ends_in parent (suc rows) k ≡ true
