-- The one name and the one record of each entry.
use Rattle.std.specs.Prelude.{ℕ, List, ◌++◌, length}
use Rattle.std.specs.Int.{w16, w32, w64, to_be_bytes}
use Rattle.mi_text.specs.Maps.{Name}
use Rattle.mi_base.specs.declared.entry.FileEntry.{FileEntry}
use Rattle.mi_base.specs.declared.entry.FileHead.{FileHead}
use Rattle.mi_base.specs.declared.entry.Shortcut.{Shortcut}
use Rattle.mi_base.specs.declared.entry.Product.{Product}
use Rattle.mi_base.specs.declared.entry.Entry.{Entry}
use Rattle.mi_base.specs.declared.entry.Entry.TheVariants.{File, Folder, Value, Key, Shortcut as ShortcutEntry, Variable, Client, Product as ProductEntry, System}
use Rattle.mi_base.specs.Fields.{string, strings, numbers, signed, four_numbers, version, payload}
use Rattle.mi_base.specs.Names.{file_name, folder_name, key_name, value_name, shortcut_name, variable_name, client_name, product_name, system_name}

abbrev pub name_of : Entry → Name
name_of (File f) = file_name f.shown
name_of (Folder shown) = folder_name shown
name_of (Value k v) = value_name k.root k.key k.shown
name_of (Key root shown) = key_name root shown
name_of (ShortcutEntry s) = shortcut_name s.shown
name_of (Variable v) = variable_name v.system v.name
name_of (Client c) = client_name c.component.number c.product.number
name_of (ProductEntry p) = product_name p.code.number
name_of (System property text) = system_name property

-- the head of a file
abbrev pub head_of : FileEntry → FileHead
head_of f = record { shown = f.shown; version = f.version; languages = f.languages; created = f.created; modified = f.modified; attributes = f.attributes; length = length f.bytes }

-- the fields before a file's bytes
unfoldable pub head_bytes : FileHead → List ℕ
head_bytes h = string h.shown ++ version h.version ++ numbers h.languages ++ to_be_bytes w64 h.created ++ to_be_bytes w64 h.modified ++ to_be_bytes w32 h.attributes

unfoldable pub shortcut_bytes : Shortcut → List ℕ
shortcut_bytes s = string s.shown ++ string s.target ++ string s.arguments ++ string s.description ++ to_be_bytes w16 s.hotkey ++ string s.icon ++ signed s.icon_index ++ to_be_bytes w16 s.show ++ string s.folder

unfoldable pub product_bytes : Product → List ℕ
product_bytes p = string p.name ++ four_numbers p.version ++ to_be_bytes w16 p.language ++ strings p.features

unfoldable pub record_of : Entry → List ℕ
record_of (File f) = head_bytes (head_of f) ++ f.bytes
record_of (Folder shown) = string shown
record_of (Value k v) = string k.shown ++ payload v
record_of (Key root shown) = string shown
record_of (ShortcutEntry s) = shortcut_bytes s
record_of (Variable v) = string v.name ++ string v.value
record_of (Client c) = string c.key_path
record_of (ProductEntry p) = product_bytes p
record_of (System property text) = string text
