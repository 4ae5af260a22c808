-- The fields of records, one after the other. Numbers are big-endian.
use Rattle.std.specs.Prelude.{ℕ, ℤ, List, [], ◌∷◌, ◌++◌, length, Option, Some, None}
use Rattle.std.specs.List.{flat_map}
use Rattle.std.specs.Int.{w16, w32, to_be_bytes, cast_unsigned}
use Rattle.mi_text.specs.declared.version.Version.{Version}
use Rattle.mi_base.specs.declared.entry.RegValue.{RegValue}
use Rattle.mi_base.specs.declared.entry.RegValue.TheVariants as value

-- a length, and as many bytes
abbrev pub string : List ℕ → List ℕ
string bytes = to_be_bytes w32 (length bytes) ++ bytes

-- a count, and as many texts
abbrev pub strings : List (List ℕ) → List ℕ
strings ts = to_be_bytes w16 (length ts) ++ flat_map string ts

-- a count, and as many numbers
abbrev pub numbers : List ℕ → List ℕ
numbers ns = to_be_bytes w16 (length ns) ++ flat_map (to_be_bytes w16) ns

-- two's complement
abbrev pub signed : ℤ → List ℕ
signed z = to_be_bytes w16 (cast_unsigned w16 z)

abbrev pub four_numbers : Version → List ℕ
four_numbers v = to_be_bytes w16 v.major ++ to_be_bytes w16 v.minor ++ to_be_bytes w16 v.build ++ to_be_bytes w16 v.revision

abbrev pub version : Option Version → List ℕ
version None = 0 ∷ []
version (Some v) = 1 ∷ four_numbers v

-- the kind of a value, and what it holds
abbrev pub payload : RegValue → List ℕ
payload (value.Text t) = 1 ∷ string t
payload (value.Expand t) = 2 ∷ string t
payload (value.Int n) = 3 ∷ to_be_bytes w32 n
payload (value.Binary b) = 4 ∷ string b
payload (value.List ts) = 5 ∷ strings ts
