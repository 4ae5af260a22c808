-- Names of properties (Restrictions on Property Names; Public Properties).
use Rattle.std.specs.Prelude.{ℕ, ◌==◌, ◌||◌, ◌&&◌, Bool, false, List, [], ◌∷◌}
use Rattle.std.specs.Char.{is_ascii_alphabetic, is_ascii_alphanumeric, is_ascii_uppercase, is_ascii_digit}
use Rattle.std.specs.List.{list_all}

-- a letter or `_`
abbrev pub begins_name : ℕ → Bool
begins_name b = is_ascii_alphabetic b || (b == 95)

-- a letter, a digit, `_` or `.`
abbrev pub continues_name : ℕ → Bool
continues_name b = is_ascii_alphanumeric b || (b == 95) || (b == 46)

-- a property name: an ASCII letter or `_`, then letters, digits, `_` and `.`
abbrev pub is_property_name : List ℕ → Bool
is_property_name [] = false
is_property_name (b ∷ bs) = begins_name b && list_all continues_name bs

-- an upper-case letter or `_`
abbrev pub begins_public_name : ℕ → Bool
begins_public_name b = is_ascii_uppercase b || (b == 95)

-- an upper-case letter, a digit, `_` or `.`
abbrev pub continues_public_name : ℕ → Bool
continues_public_name b = is_ascii_uppercase b || is_ascii_digit b || (b == 95) || (b == 46)

-- the name of a public property, as a word of the command line may set it
abbrev pub is_public_name : List ℕ → Bool
is_public_name [] = false
is_public_name (b ∷ bs) = begins_public_name b && list_all continues_public_name bs
