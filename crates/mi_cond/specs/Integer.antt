-- Integers in conditions and in the texts that are compared with them.
use Rattle.std.specs.Prelude.{ℕ, ◌+◌, ◌*◌, ◌-◌, nat_le, ◌==◌, ◌&&◌, Bool, true, false, if◌then◌else◌, List, [], ◌∷◌, fold, Option, None, Some, option_and_then, ℤ, pos, neg_ℤ, nat_abs}

abbrev pub is_digit : ℕ → Bool
is_digit b = nat_le 48 b && nat_le b 57

abbrev pub are_digits : List ℕ → Bool
are_digits [] = true
are_digits (b ∷ bs) = is_digit b && are_digits bs

abbrev pub is_empty : List ℕ → Bool
is_empty [] = true
is_empty (b ∷ bs) = false

-- the number of decimal digits
abbrev pub decimal_of : List ℕ → ℕ
decimal_of digits = fold (λ n b. 10 * n + (b - 48)) 0 digits

abbrev pub signed : Bool → ℕ → ℤ
signed negative n = if negative then neg_ℤ (pos n) else pos n

abbrev pub digits_of : Bool → List ℕ → Option ℤ
digits_of negative [] = None
digits_of negative (b ∷ bs) = if are_digits (b ∷ bs) then Some (signed negative (decimal_of (b ∷ bs))) else None

-- an optional `-`, and digits
abbrev pub integer_of : List ℕ → Option ℤ
integer_of [] = None
integer_of (b ∷ bs) = if b == 45 then digits_of true bs else digits_of false (b ∷ bs)

-- at most 2147483647 either way
abbrev pub is_small : ℤ → Bool
is_small z = nat_le (nat_abs z) 2147483647

-- the integer that a text spells
abbrev pub spelled_integer : List ℕ → Option ℤ
spelled_integer text = option_and_then (λ z. if is_small z then Some z else None) (integer_of text)
