-- The names of the rollback area (this project's own).
use Rattle.std.specs.Prelude.{ℕ, zero, suc, ◌+◌, ◌/◌, ◌%◌, Bool, false, ◌&&◌, ◌==◌, List, [], ◌∷◌, ◌++◌}

-- j/m
abbrev pub marker : List ℕ
marker = 106 ∷ 47 ∷ 109 ∷ []

-- the last so many decimal digits of a number
unfoldable pub digits : ℕ → ℕ → List ℕ
digits zero k = []
digits (suc n) k = digits n (k / 10) ++ (48 + k % 10) ∷ []

-- j/e/ and eight digits
abbrev pub entry_name : ℕ → List ℕ
entry_name k = 106 ∷ 47 ∷ 101 ∷ 47 ∷ digits 8 k

-- j/g/ and eight digits
abbrev pub gate_name : ℕ → List ℕ
gate_name k = 106 ∷ 47 ∷ 103 ∷ 47 ∷ digits 8 k

-- how many entries there are at most
unfoldable pub most_entries : ℕ
most_entries = 100000000

-- the names that begin with j/
abbrev pub is_inside : List ℕ → Bool
is_inside [] = false
is_inside (a ∷ []) = false
is_inside (a ∷ b ∷ rest) = (a == 106) && (b == 47)

-- the names that begin with j/e/
abbrev pub is_entry_like : List ℕ → Bool
is_entry_like [] = false
is_entry_like (a ∷ []) = false
is_entry_like (a ∷ b ∷ []) = false
is_entry_like (a ∷ b ∷ c ∷ []) = false
is_entry_like (a ∷ b ∷ c ∷ d ∷ rest) = (a == 106) && (b == 47) && (c == 101) && (d == 47)

-- the names of so many entries and of their gates
unfoldable pub area_names : ℕ → List (List ℕ)
area_names zero = []
area_names (suc n) = area_names n ++ entry_name n ∷ gate_name n ∷ []
