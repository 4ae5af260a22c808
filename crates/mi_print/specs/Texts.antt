-- How texts and numbers are printed (this project's own; texts in quotes, numbers and bytes as an exported .reg file has them).
use Rattle.std.specs.Prelude.{ℕ, ◌==◌, ◌+◌, ◌/◌, ◌%◌, ◌||◌, nat_lt, Bool, if◌then◌else◌, List, [], ◌∷◌, ◌++◌}
use Rattle.std.specs.List.{flat_map}
use Rattle.std.specs.Str.{chars}
use Rattle.std.specs.Fmt.{decimal}
use Rattle.std.specs.Char.Escape.{encode_utf16}
use Rattle.mi_text.specs.declared.version.Version.{Version}

-- the lower-case digit of a value below 16
abbrev pub digit : ℕ → ℕ
digit v = if nat_lt v 10 then 48 + v else 87 + v

abbrev pub two_digits : ℕ → List ℕ
two_digits b = digit (b / 16) ∷ digit (b % 16) ∷ []

abbrev pub is_control : ℕ → Bool
is_control b = nat_lt b 32 || (b == 127)

-- a byte that is printed by its number: a control character, or the sign in which numbers are printed
abbrev pub is_escaped : ℕ → Bool
is_escaped b = is_control b || (b == 60)

-- the same, and the bar that a tree of files is drawn with
abbrev pub is_escaped_in_tree : ℕ → Bool
is_escaped_in_tree b = is_escaped b || (b == 124)

-- the same, and the bracket behind a key
abbrev pub is_escaped_in_key : ℕ → Bool
is_escaped_in_key b = is_escaped b || (b == 93)

-- a byte as itself, or its number in angle brackets
abbrev pub escaped_byte : (ℕ → Bool) → ℕ → List ℕ
escaped_byte special b = if special b then 60 ∷ two_digits b ++ 62 ∷ [] else b ∷ []

-- a text in a field of a line
abbrev pub field : List ℕ → List ℕ
field text = flat_map (escaped_byte is_escaped) text

-- a backslash or a quote
abbrev pub is_sign : ℕ → Bool
is_sign b = (b == 92) || (b == 34)

-- a byte in quotes: a backslash stands before a backslash, a quote, and the number of a control character
abbrev pub quoted_byte : ℕ → List ℕ
quoted_byte b = if is_sign b then 92 ∷ b ∷ [] else if is_control b then 92 ∷ two_digits b else b ∷ []

unfoldable pub quoted : List ℕ → List ℕ
quoted text = 34 ∷ flat_map quoted_byte text ++ 34 ∷ []

-- bytes with a comma between
unfoldable pub bytes_text : List ℕ → List ℕ
bytes_text [] = []
bytes_text (b ∷ bs) = two_digits b ++ flat_map (λ c. 44 ∷ two_digits c) bs

-- a text in UTF-16, the low byte first, with an end of two zeros
unfoldable pub wide : List ℕ → List ℕ
wide text = flat_map (λ c. flat_map (λ u. u % 256 ∷ u / 256 ∷ []) (encode_utf16 c)) (chars text) ++ 0 ∷ 0 ∷ []

-- four numbers with a point between
unfoldable pub version_text : Version → List ℕ
version_text v = decimal v.major ++ 46 ∷ decimal v.minor ++ 46 ∷ decimal v.build ++ 46 ∷ decimal v.revision
