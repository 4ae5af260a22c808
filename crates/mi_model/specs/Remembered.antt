-- Folders of an earlier run. (Changing the Target Location for a Directory; that they are remembered by key paths is this project's own.)
use Rattle.std.specs.Prelude.{ℕ, Bool, ◌&&◌, List, find, Option, is_some, option_map, option_and_then}
use Rattle.std.specs.List.{filter_map}
use Rattle.std.specs.Result.{result_ok}
use Rattle.mi_text.specs.Maps.{Name, same_name}
use Rattle.mi_text.specs.Path.{folder_of, up_to_last}
use Rattle.mi_text.specs.declared.guid.Guid.{Guid}
use Rattle.mi_base.specs.declared.entry.Client.{Client}
use Rattle.mi_base.specs.Machine.{client_at}
use Rattle.mi_dirs.specs.Places.{Folder}
use Rattle.mi_rows.specs.Values.{lacks}
use Rattle.mi_schema.specs.declared.typed_rows.ComponentRow.{ComponentRow}
use Rattle.mi_schema.specs.declared.typed_rows.DirectoryRow.{DirectoryRow}
use Rattle.mi_schema.specs.TableRows.{Numbered, in_key_order, product_code}
use Rattle.mi_model.specs.World.{Given}

-- the key path that the product's client row of a component holds
abbrev pub client_path : Given → ComponentRow → Option (List ℕ)
client_path g c = option_map (λ (client : Client). client.key_path) (option_and_then (λ (id : Guid). client_at g.former id.number (product_code g.rows)) c.component_id)

-- the component lies in this directory, its key path is no value, and the product is its client
abbrev pub tells_folder : Given → Name → Numbered ComponentRow → Bool
tells_folder g dir c = same_name dir c.row.directory && lacks 4 c.row.attributes && is_some (client_path g c.row)

-- The first such component in key order tells the folder: its recorded key path up to the last backslash, where that is a folder.
abbrev pub remembered_folder : Given → Name → Option Folder
remembered_folder g dir =
    option_and_then (λ path. result_ok (folder_of (up_to_last path)))
    (option_and_then (λ (c : Numbered ComponentRow). client_path g c.row)
    (find (tells_folder g dir) (in_key_order (λ (c : ComponentRow). c.component) g.rows.component)))

-- the directories that have one
unfoldable pub remembered : Given → List (Name × Folder)
remembered g = filter_map (λ (d : DirectoryRow). option_map (λ folder. (d.directory, folder)) (remembered_folder g d.directory)) g.rows.directory
