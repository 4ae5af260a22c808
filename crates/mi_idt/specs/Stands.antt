-- Fields that stand as they are written.
use Rattle.std.specs.Prelude.{ℕ, ◌==◌, ◌||◌, nat_lt, not, Bool, true, false, if◌then◌else◌, List, [], ◌∷◌, length}
use Rattle.std.specs.List.{list_all}

abbrev pub begins_with_zero : List ℕ → Bool
begins_with_zero [] = false
begins_with_zero (d ∷ ds) = d == 48

-- of a field that spells an integer: no zero at the front, but for a single one without a sign
abbrev pub integer_stands : List ℕ → Bool
integer_stands [] = true
integer_stands (b ∷ bs) = if b == 45 then not (begins_with_zero bs) else not (b == 48) || (length (b ∷ bs) == 1)

-- of a text: no byte of those that are escaped
abbrev pub text_stands : List ℕ → Bool
text_stands field = list_all (λ b. nat_lt 13 b) field

-- each byte stands for itself: none is below 28 but the tab
abbrev pub is_plain_line : List ℕ → Bool
is_plain_line bytes = list_all (λ b. nat_lt 27 b || b == 9) bytes
