-- Fields of a line, escapes and numbers. (Importing and exporting tables.)
use Rattle.std.specs.Prelude.{ℕ, ℤ, pos, neg_ℤ, ◌+◌, ◌-◌, ◌*◌, ◌==◌, ◌&&◌, nat_le, nat_lt, Bool, if◌then◌else◌, List, [], ◌∷◌, Option, Some, None, option_map}
use Rattle.std.specs.List.{slice_split, list_all}

-- tabs separate the fields of a line
abbrev pub fields_of : List ℕ → List (List ℕ)
fields_of line = slice_split (λ b. b == 9) line

-- in a field these six bytes stand for others
abbrev pub unescaped : ℕ → ℕ
unescaped b = if b == 21 then 0 else if b == 27 then 8 else if b == 16 then 9 else if b == 25 then 10 else if b == 24 then 12 else if b == 17 then 13 else b

abbrev pub is_ascii : List ℕ → Bool
is_ascii line = list_all (λ b. nat_lt b 128) line

-- ---- numbers

abbrev pub is_digit : ℕ → Bool
is_digit b = nat_le 48 b && nat_le b 57

-- the number that digits spell behind another
abbrev pub number_on : ℕ → List ℕ → ℕ
number_on n [] = n
number_on n (d ∷ ds) = number_on (n * 10 + (d - 48)) ds

-- the number behind another, where all are digits and it stays within a limit
abbrev pub within_on : ℕ → ℕ → List ℕ → Option ℕ
within_on limit n [] = Some n
within_on limit n (d ∷ ds) = if is_digit d && nat_le (n * 10 + (d - 48)) limit then within_on limit (n * 10 + (d - 48)) ds else None

-- digits, at least one, that spell a number within a limit
abbrev pub number_within : ℕ → List ℕ → Option ℕ
number_within limit [] = None
number_within limit (d ∷ ds) = within_on limit 0 (d ∷ ds)

-- the same behind an optional minus sign
abbrev pub integer_within : ℕ → List ℕ → Option ℤ
integer_within limit [] = None
integer_within limit (b ∷ bs) = if b == 45 then option_map (λ n. neg_ℤ (pos n)) (number_within limit bs) else option_map pos (number_within limit (b ∷ bs))
