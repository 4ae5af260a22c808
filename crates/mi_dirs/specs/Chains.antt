-- Chains of parents (Directory Table, Directory_Parent).
use Rattle.std.specs.Prelude.{ℕ, zero, suc, Bool, true, false, Option, Some, None, option_map}

-- What each row has by what its parent has: `step` gives it from the row and from what its parent has, which is None for a
-- root row. The number bounds the chain of parents; where it is spent, `stop`.
abbrev pub along : {A : Type 0} → (ℕ → Option ℕ) → (ℕ → Option A → A) → A → ℕ → ℕ → A
along parent step stop zero row = stop
along parent step stop (suc n) row = step row (option_map (λ p. along parent step stop n p) (parent row))

abbrev pub root_or : (ℕ → Bool) → Option ℕ → Bool
root_or test None = true
root_or test (Some p) = test p

-- the chain of parents of a row ends within so many rows
abbrev pub ends_in : (ℕ → Option ℕ) → ℕ → ℕ → Bool
ends_in parent zero row = false
ends_in parent (suc n) row = root_or (ends_in parent n) (parent row)
