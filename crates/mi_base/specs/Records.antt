-- The entry that a name and a record spell, or the first fault from the left.
use Rattle.std.specs.Prelude.{ℕ, ◌+◌, ◌-◌, ◌*◌, ◌==◌, nat_lt, nat_le, ◌&&◌, ◌||◌, not, Bool, if◌then◌else◌, List, [], ◌∷◌, length, take, drop, Option, Some, None, Result, Ok, Err, option_and_then}
use Rattle.std.specs.Int.{w16, w32, w64, cast_signed}
use Rattle.std.specs.Str.{is_utf8, bytes_eq}
use Rattle.std.specs.Char.{is_ascii_digit}
use Rattle.mi_text.specs.Maps.{Name}
use Rattle.mi_text.specs.Fold.{folded}
use Rattle.mi_text.specs.Guid.{guid_of, guid_text}
use Rattle.mi_text.specs.Path.{is_file_path, is_folder_path}
use Rattle.mi_base.specs.declared.rec_error.RecFault.{RecFault}
use Rattle.mi_base.specs.declared.rec_error.RecFault.TheVariants.{Short, Field}
use Rattle.mi_base.specs.declared.entry.FileHead.{FileHead}
use Rattle.mi_base.specs.declared.entry.FileEntry.{FileEntry}
use Rattle.mi_base.specs.declared.entry.Entry.{Entry}
use Rattle.mi_base.specs.declared.entry.Entry.TheVariants.{File, Folder, Value, Key, Shortcut, Variable, Client, Product, System}
use Rattle.mi_base.specs.declared.reading.Order.TheVariants.{Rising}
use Rattle.mi_base.specs.Limits.{are_bytes, is_folded, is_key, is_value_name, is_variable_name, is_system_name}
use Rattle.mi_base.specs.Reading.{◌>>=◌, number_at, text_at, shown_at, texts_at, rising_numbers_at, four_numbers_at, version_at, value_at, ended}

-- ---- names

-- a folded path with its drive as paths show it
abbrev pub drive_shown : List ℕ → List ℕ
drive_shown (b ∷ bs) = if b == 99 then 67 ∷ bs else []
drive_shown [] = []

unfoldable pub names_file : List ℕ → Bool
names_file path = is_utf8 path && is_folded path && is_file_path (drive_shown path)

abbrev pub is_inner_folder : List ℕ → Bool
is_inner_folder path = is_folder_path path && not (length path == 3)

unfoldable pub names_folder : List ℕ → Bool
names_folder path = is_utf8 path && is_folded path && is_inner_folder (drive_shown path)

-- the code that a text is, as it is printed
unfoldable pub code_in : List ℕ → Option ℕ
code_in text = option_and_then (λ n. if bytes_eq (guid_text n) text then Some n else None) (guid_of text)

abbrev pub is_root : ℕ → Bool
is_root b = nat_le 48 b && nat_le b 51

abbrev pub names_key : ℕ → List ℕ → Bool
names_key root key = is_root root && is_utf8 key && is_folded key && is_key key

abbrev pub names_value : ℕ → List ℕ → List ℕ → Bool
names_value root key name = names_key root key && is_utf8 name && is_folded name && is_value_name name

abbrev pub names_variable : ℕ → List ℕ → Bool
names_variable owner name = ((owner == 48) || (owner == 49)) && is_utf8 name && is_folded name && is_variable_name name

-- ---- records

abbrev pub is_shown_file : List ℕ → List ℕ → Bool
is_shown_file path text = is_utf8 text && bytes_eq (folded text) path && is_file_path text

-- the shown path, where the record goes on for so many bytes behind these
unfoldable pub shown_file_at : ℕ → List ℕ → List ℕ → Result (List ℕ × List ℕ) RecFault
shown_file_at more path bytes = do
  n ← number_at w32 bytes
  if nat_lt (length n.1 + more) n.0 then Err Short else if is_shown_file path (take n.0 n.1) then Ok (take n.0 n.1, drop n.0 n.1) else Err Field

-- the head of a file, and what stands behind it of these bytes
unfoldable pub head_at : ℕ → List ℕ → List ℕ → Result (FileHead × List ℕ) RecFault
head_at more path bytes = do
  shown ← shown_file_at more path bytes
  version ← version_at shown.1
  languages ← rising_numbers_at version.1
  created ← number_at w64 languages.1
  modified ← number_at w64 created.1
  attributes ← number_at w32 modified.1
  if nat_lt attributes.0 8 then Ok (record { shown = shown.0; version = version.0; languages = languages.0; created = created.0; modified = modified.0; attributes = attributes.0; length = length attributes.1 + more }, attributes.1) else Err Field

abbrev pub with_bytes : FileHead → List ℕ → FileEntry
with_bytes h bytes = record { shown = h.shown; version = h.version; languages = h.languages; created = h.created; modified = h.modified; attributes = h.attributes; bytes = bytes }

unfoldable pub file_of : List ℕ → List ℕ → Result Entry RecFault
file_of path bytes = if names_file path then (head_at 0 path bytes >>= λ h. Ok (File (with_bytes h.0 h.1))) else Err Field

unfoldable pub folder_of : List ℕ → List ℕ → Result Entry RecFault
folder_of path bytes = if names_folder path then (shown_at path bytes >>= λ shown. if is_inner_folder shown.0 then ended (Folder shown.0, shown.1) else Err Field) else Err Field

unfoldable pub key_of : List ℕ → List ℕ → Result Entry RecFault
key_of [] bytes = Err Field
key_of (root ∷ key) bytes = if names_key root key then (shown_at key bytes >>= λ shown. ended (Key (root - 48) shown.0, shown.1)) else Err Field

abbrev pub value_in : ℕ → List ℕ → List ℕ → List ℕ → Result Entry RecFault
value_in root key name bytes =
    if names_value root key name then (do
      shown ← shown_at name bytes
      v ← value_at shown.1
      ended (Value (record { root = root - 48; key = key; shown = shown.0 }) v.0, v.1))
    else Err Field

abbrev pub number_of : ℕ → ℕ → ℕ → ℕ → ℕ
number_of a b c d = (a - 48) * 1000 + (b - 48) * 100 + (c - 48) * 10 + (d - 48)

abbrev pub are_digits : ℕ → ℕ → ℕ → ℕ → Bool
are_digits a b c d = is_ascii_digit a && is_ascii_digit b && is_ascii_digit c && is_ascii_digit d

-- the digits say how long the key is; the rest is the name
unfoldable pub value_of : List ℕ → List ℕ → Result Entry RecFault
value_of (root ∷ a ∷ b ∷ c ∷ d ∷ rest) bytes =
    if are_digits a b c d && nat_le (number_of a b c d) (length rest) then value_in root (take (number_of a b c d) rest) (drop (number_of a b c d) rest) bytes else Err Field
value_of name bytes = Err Field

-- what a shortcut starts
abbrev pub shortcut_behind : List ℕ × List ℕ → Result Entry RecFault
shortcut_behind shown = do
  target ← text_at shown.1
  arguments ← text_at target.1
  description ← text_at arguments.1
  hotkey ← number_at w16 description.1
  icon ← text_at hotkey.1
  icon_index ← number_at w16 icon.1
  show ← number_at w16 icon_index.1
  folder ← text_at show.1
  ended (Shortcut (record { shown = shown.0; target = target.0; arguments = arguments.0; description = description.0; hotkey = hotkey.0; icon = icon.0; icon_index = cast_signed w16 icon_index.0; show = show.0; folder = folder.0 }), folder.1)

unfoldable pub shortcut_of : List ℕ → List ℕ → Result Entry RecFault
shortcut_of path bytes = if names_file path then (shown_at path bytes >>= λ shown. if is_file_path shown.0 then shortcut_behind shown else Err Field) else Err Field

unfoldable pub variable_of : List ℕ → List ℕ → Result Entry RecFault
variable_of [] bytes = Err Field
variable_of (owner ∷ name) bytes =
    if names_variable owner name then (do
      shown ← shown_at name bytes
      text ← text_at shown.1
      ended (Variable (record { system = owner == 49; name = shown.0; value = text.0 }), text.1))
    else Err Field

abbrev pub client_in : Option ℕ → Option ℕ → List ℕ → Result Entry RecFault
client_in (Some component) (Some product) bytes = text_at bytes >>= λ text. ended (Client (record { component = record { number = component }; product = record { number = product }; key_path = text.0 }), text.1)
client_in component product bytes = Err Field

unfoldable pub client_of : List ℕ → List ℕ → Result Entry RecFault
client_of codes bytes = client_in (code_in (take 38 codes)) (code_in (drop 38 codes)) bytes

abbrev pub product_in : Option ℕ → List ℕ → Result Entry RecFault
product_in None bytes = Err Field
product_in (Some code) bytes = do
  name ← text_at bytes
  version ← four_numbers_at name.1
  language ← number_at w16 version.1
  features ← texts_at Rising language.1
  ended (Product (record { code = record { number = code }; name = name.0; version = version.0; language = language.0; features = features.0 }), features.1)

unfoldable pub product_of : List ℕ → List ℕ → Result Entry RecFault
product_of code bytes = product_in (code_in code) bytes

unfoldable pub system_of : List ℕ → List ℕ → Result Entry RecFault
system_of property bytes = if is_system_name property then (text_at bytes >>= λ text. ended (System property text.0, text.1)) else Err Field

abbrev pub kind_of : ℕ → List ℕ → List ℕ → Result Entry RecFault
kind_of kind rest bytes =
    if kind == 102 then file_of rest bytes
    else if kind == 100 then folder_of rest bytes
    else if kind == 107 then key_of rest bytes
    else if kind == 118 then value_of rest bytes
    else if kind == 115 then shortcut_of rest bytes
    else if kind == 110 then variable_of rest bytes
    else if kind == 99 then client_of rest bytes
    else if kind == 112 then product_of rest bytes
    else if kind == 121 then system_of rest bytes
    else Err Field

-- bytes are below 256
abbrev pub entry_in : ℕ → List ℕ → List ℕ → Result Entry RecFault
entry_in kind rest bytes = if are_bytes bytes then kind_of kind rest bytes else Err Field

-- a letter for the kind, a slash, and what the kind says
unfoldable pub entry_of : Name → List ℕ → Result Entry RecFault
entry_of (kind ∷ slash ∷ rest) bytes = if slash == 47 then entry_in kind rest bytes else Err Field
entry_of name bytes = Err Field

-- the folded path in a file's name
abbrev pub path_in : Name → Option (List ℕ)
path_in (kind ∷ slash ∷ path) = if (kind == 102) && (slash == 47) then Some path else None
path_in name = None

-- the head of a file, where the record goes on for so many bytes behind these
abbrev pub head_in : ℕ → List ℕ → List ℕ → Result FileHead RecFault
head_in more path bytes = if names_file path then (head_at more path bytes >>= λ h. Ok h.0) else Err Field

abbrev pub head_for : Option (List ℕ) → List ℕ → Result FileHead RecFault
head_for None bytes = Err Field
head_for (Some path) bytes = head_in 0 path bytes

-- the head of a file, and the number of the file's bytes
unfoldable pub file_head_of : Name → List ℕ → Result FileHead RecFault
file_head_of name bytes = head_for (path_in name) bytes
