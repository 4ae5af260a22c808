-- Key paths of components as the program keeps them. (Component Table, KeyPath.)
use Rattle.std.specs.Prelude.{[], Option, unwrap_or, Result, Ok}
use Rattle.mi_text.specs.Maps.{Name}
use Rattle.mi_base.specs.declared.answers.Fault.{Fault}
use Rattle.mi_schema.specs.declared.typed_rows.RegistryRow.{RegistryRow}
use Rattle.mi_schema.specs.TableRows.{Rows, Numbered, numbered_from, row_of}
use Rattle.mi_model.specs.KeyPaths as model
use Rattle.mi_model.specs.Refusals.{◌>>=◌}
use Rattle.mi_model.specs.RegistryRows.{RegistryPlace}
use Rattle.mi_select.specs.declared.key_path.KeyPath.{KeyPath}
use Rattle.mi_select.specs.declared.key_path.KeyPath.TheVariants.{File, Folder, Value}

-- what a key path means; that of a component without a folder is the empty text
abbrev pub meant : KeyPath → model.KeyPath
meant (File path) = model.File path
meant (Folder folder) = model.Folder (unwrap_or folder [])
meant (Value place) = model.Value place

-- a value, where its row isn't refused
abbrev pub of_value : Result RegistryPlace Fault → Result model.KeyPath Fault
of_value place = place >>= λ p. Ok (model.Value p)

-- the row of a key, with its number in the file
abbrev pub registry_row_of : Rows → Name → Option (Numbered RegistryRow)
registry_row_of rows key = row_of (λ (r : Numbered RegistryRow). r.row.registry) (numbered_from 1 rows.registry) key
