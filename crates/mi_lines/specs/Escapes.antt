-- How bytes are written in scripts and printed (this project's own).
use Rattle.std.specs.Prelude.{◌==◌, ◌&&◌, ◌||◌, not, ◌+◌, ◌-◌, ◌*◌, ◌/◌, ◌%◌, ℕ, Bool, List, ◌∷◌, [], if◌then◌else◌, nat_le}
use Rattle.std.specs.List.{flat_map}

-- a printable letter other than '<'
abbrev pub is_plain : ℕ → Bool
is_plain b = nat_le 32 b && nat_le b 126 && not (b == 60)

-- the lower-case digit of a value below 16
abbrev pub digit : ℕ → ℕ
digit v = if nat_le 10 v then 87 + v else 48 + v

-- a byte as it is printed
abbrev pub escaped_byte : ℕ → List ℕ
escaped_byte b = if is_plain b then b ∷ [] else 60 ∷ digit (b / 16) ∷ digit (b % 16) ∷ 62 ∷ []

-- bytes as they are printed
abbrev pub escaped : List ℕ → List ℕ
escaped bytes = flat_map escaped_byte bytes

abbrev pub is_digit : ℕ → Bool
is_digit b = (nat_le 48 b && nat_le b 57) || (nat_le 97 b && nat_le b 102)

abbrev pub digit_value : ℕ → ℕ
digit_value b = if nat_le b 57 then b - 48 else b - 87

-- whether these four bytes are a byte's number in angle brackets
abbrev pub is_code : ℕ → ℕ → ℕ → ℕ → Bool
is_code a high low e = a == 60 && is_digit high && is_digit low && e == 62

-- the bytes that a field's text stands for
unfoldable pub unescaped : List ℕ → List ℕ
unescaped [] = []
unescaped (a ∷ []) = a ∷ []
unescaped (a ∷ b ∷ []) = a ∷ b ∷ []
unescaped (a ∷ b ∷ c ∷ []) = a ∷ b ∷ c ∷ []
unescaped (a ∷ b ∷ c ∷ d ∷ rest) = if is_code a b c d then (digit_value b * 16 + digit_value c) ∷ unescaped rest else a ∷ unescaped (b ∷ c ∷ d ∷ rest)

-- the byte at the front of a text, and what stands behind it
abbrev pub first_byte : ℕ → List ℕ → ℕ × List ℕ
first_byte a [] = (a, [])
first_byte a (b ∷ []) = (a, b ∷ [])
first_byte a (b ∷ c ∷ []) = (a, b ∷ c ∷ [])
first_byte a (b ∷ c ∷ d ∷ rest) = if is_code a b c d then (digit_value b * 16 + digit_value c, rest) else (a, b ∷ c ∷ d ∷ rest)
