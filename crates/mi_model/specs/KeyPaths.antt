-- The key path of a component, by which it is known to be there. (Component Table, KeyPath.)
use Rattle.std.specs.Prelude.{ℕ, ◌++◌, Bool, if◌then◌else◌, List, [], ◌∷◌, codes, Option, Some, None, is_some, option_and_then, unwrap_or, Result, Ok, Err}
use Rattle.mi_text.specs.Lookups.{Lookups}
use Rattle.mi_base.specs.Names.{digit}
use Rattle.mi_base.specs.Machine.{Machine, file_at, folder_at, value_at}
use Rattle.mi_dirs.specs.Places.{Place, target_of}
use Rattle.mi_rows.specs.Values.{lacks}
use Rattle.mi_schema.specs.declared.typed_rows.ComponentRow.{ComponentRow}
use Rattle.mi_schema.specs.declared.typed_rows.FileRow.{FileRow}
use Rattle.mi_schema.specs.declared.typed_rows.RegistryRow.{RegistryRow}
use Rattle.mi_model.specs.Texts.{Text}
use Rattle.mi_base.specs.declared.answers.Fault.{Fault}
use Rattle.mi_base.specs.declared.answers.Fault.TheVariants.{BadPath}
use Rattle.mi_schema.specs.TableRows.{Rows, Numbered, numbered_from, row_of}
use Rattle.mi_model.specs.Asked.{path_of_file}
use Rattle.mi_model.specs.Refusals.{◌>>=◌}
use Rattle.mi_model.specs.RegistryRows.{RegistryPlace, registry_place}

pub data KeyPath : Type 0 where
  File : (path : Text) → KeyPath
  Folder : (path : Text) → KeyPath
  Value : (place : RegistryPlace) → KeyPath

-- of a value: `0`, the root, `:`, the key, `\` and the name
unfoldable pub key_path_text : KeyPath → Text
key_path_text (File path) = path
key_path_text (Folder path) = path
key_path_text (Value p) = digit 0 ∷ digit p.root ∷ 58 ∷ p.key ++ 92 ∷ p.name

-- the machine holds what the key path names
unfoldable pub is_there : Machine → KeyPath → Bool
is_there m (File path) = is_some (file_at m path)
is_there m (Folder path) = is_some (folder_at m path)
is_there m (Value p) = is_some (value_at m p.root p.key p.name)

-- the row of Registry that KeyPath names, where attribute 4 is set
abbrev pub value_row : Rows → ComponentRow → Option (Numbered RegistryRow)
value_row rows c = if lacks 4 c.attributes then None else option_and_then (row_of (λ (r : Numbered RegistryRow). r.row.registry) (numbered_from 1 rows.registry)) c.key_path

-- and else the row of File
abbrev pub file_row : Rows → ComponentRow → Option (Numbered FileRow)
file_row rows c = if lacks 4 c.attributes then option_and_then (row_of (λ (r : Numbered FileRow). r.row.file) (numbered_from 1 rows.file)) c.key_path else None

abbrev pub of_file : Option Text → ℕ → Result KeyPath Fault
of_file (Some path) row = Ok (File path)
of_file None row = Err (BadPath (codes "File") row)

-- by the directories as they stand: that of the value, or of the file; without either the component's folder
abbrev pub of_rows : Rows → List Place → Lookups → ComponentRow → Option (Numbered RegistryRow) → Option (Numbered FileRow) → Result KeyPath Fault
of_rows rows dirs L c (Some r) file = registry_place L r >>= λ p. Ok (Value p)
of_rows rows dirs L c None (Some r) = of_file (path_of_file rows dirs r.row) r.number
of_rows rows dirs L c None None = Ok (Folder (unwrap_or (target_of dirs c.directory) []))

unfoldable pub key_path_of : Rows → List Place → Lookups → ComponentRow → Result KeyPath Fault
key_path_of rows dirs L c = of_rows rows dirs L c (value_row rows c) (file_row rows c)
