-- Keys and values of the registry as an exported .reg file has them (Registry Editor, version 5.00). A text that is to be expanded, and a
-- list, stand there as the bytes of UTF-16; before them a comment has them so that they can be read.
use Rattle.std.specs.Prelude.{ℕ, zero, suc, List, [], ◌∷◌, ◌++◌, codes}
use Rattle.std.specs.List.{flat_map}
use Rattle.std.specs.Int.{w32, to_be_bytes}
use Rattle.mi_base.specs.declared.entry.RegValue.{RegValue}
use Rattle.mi_base.specs.declared.entry.RegValue.TheVariants as value
use Rattle.mi_print.specs.Texts.{escaped_byte, is_escaped_in_key, quoted, two_digits, bytes_text, wide}

abbrev pub root_name : ℕ → List ℕ
root_name zero = codes "HKEY_CLASSES_ROOT"
root_name (suc zero) = codes "HKEY_CURRENT_USER"
root_name (suc (suc zero)) = codes "HKEY_LOCAL_MACHINE"
root_name (suc (suc (suc n))) = codes "HKEY_USERS"

-- a key in brackets
unfoldable pub key_text : ℕ → List ℕ → List ℕ
key_text root key = 91 ∷ root_name root ++ 92 ∷ flat_map (escaped_byte is_escaped_in_key) key ++ 93 ∷ []

unfoldable pub key_line : ℕ → List ℕ → List ℕ
key_line root key = key_text root key ++ 10 ∷ []

-- the empty name is that of the key's own value
abbrev pub value_name : List ℕ → List ℕ
value_name [] = codes "@="
value_name (b ∷ name) = quoted (b ∷ name) ++ 61 ∷ []

-- eight digits
unfoldable pub int_text : ℕ → List ℕ
int_text n = flat_map two_digits (to_be_bytes w32 n)

-- what a value holds, so that it can be read
abbrev pub data_text : RegValue → List ℕ
data_text (value.Text t) = quoted t
data_text (value.Expand t) = codes "expand:" ++ quoted t
data_text (value.Int n) = codes "dword:" ++ int_text n
data_text (value.Binary b) = codes "hex:" ++ bytes_text b
data_text (value.List ts) = codes "list:" ++ flat_map (λ t. 32 ∷ quoted t) ts

-- a value in one line, by the name as it is shown
unfoldable pub value_line : List ℕ → RegValue → List ℕ
value_line shown v = value_name shown ++ data_text v ++ 10 ∷ []

-- a value in an exported file
unfoldable pub exported : List ℕ → RegValue → List ℕ
exported shown (value.Expand t) = codes "; " ++ value_line shown (value.Expand t) ++ value_name shown ++ codes "hex(2):" ++ bytes_text (wide t) ++ 10 ∷ []
exported shown (value.List ts) = codes "; " ++ value_line shown (value.List ts) ++ value_name shown ++ codes "hex(7):" ++ bytes_text (flat_map wide ts ++ 0 ∷ 0 ∷ []) ++ 10 ∷ []
exported shown v = value_line shown v

-- a value whose key isn't recorded: a comment, the key, the value and an empty line
unfoldable pub stray : ℕ → List ℕ → List ℕ → RegValue → List ℕ
stray root key shown v = codes "; not recorded:\n" ++ key_line root key ++ exported shown v ++ 10 ∷ []
