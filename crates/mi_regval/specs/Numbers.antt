-- Integers behind `#` (Registry table, column Value).
use Rattle.std.specs.Prelude.{ℕ, ◌-◌, ◌==◌, nat_le, ◌&&◌, not, if◌then◌else◌, List, [], ◌∷◌, length, Option, Some, None, option_map}
use Rattle.std.specs.Char.{is_ascii_digit}
use Rattle.std.specs.List.{list_all}
use Rattle.std.specs.Str.Parse.{digits_value}

-- decimal digits, as many as stand there, that write at most this number
abbrev pub number_of : ℕ → List ℕ → Option ℕ
number_of most digits =
    if list_all is_ascii_digit digits && not (length digits == 0) && nat_le (digits_value 10 digits) most then Some (digits_value 10 digits) else None

-- a negative number as 32 bits
abbrev pub negative : ℕ → ℕ
negative n = if n == 0 then 0 else 4294967296 - n

-- an optional sign and digits from -2147483648 to 4294967295, as 32 bits
abbrev pub int_of : List ℕ → Option ℕ
int_of [] = None
int_of (b ∷ bs) =
    if b == 45 then option_map negative (number_of 2147483648 bs)
    else if b == 43 then number_of 4294967295 bs
    else number_of 4294967295 (b ∷ bs)
