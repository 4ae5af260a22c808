-- What CreateFolders and RemoveFolders touch. (CreateFolder Table; CreateFolders Action; RemoveFolders Action.)
use Rattle.std.specs.Prelude.{Bool, List, [], ◌∷◌, map, Option, Ok}
use Rattle.std.specs.List.{filter_map}
use Rattle.std.specs.Option.{option_map_or}
use Rattle.mi_text.specs.Maps.{Name}
use Rattle.mi_dirs.specs.Places.{Folder, target_of}
use Rattle.mi_schema.specs.declared.typed_rows.CreateFolderRow.{CreateFolderRow}
use Rattle.mi_model.specs.World.{World, RowEffect, Effect}
use Rattle.mi_schema.specs.TableRows.{Numbered, joined_key}
use Rattle.mi_model.specs.Asked.{comes, leaves, dirs_of}
use Rattle.mi_model.specs.ComponentRows.{rows_that}
use Rattle.mi_model.specs.Parents.{folder_with_parents}
use Rattle.mi_model.specs.Prune.{prune_folders}

abbrev pub folder_rows : (Name → Bool) → World → List (Numbered CreateFolderRow)
folder_rows test w = rows_that (λ (r : CreateFolderRow). joined_key r.directory r.component) (λ (r : CreateFolderRow). r.component) test w.given.rows.create_folder

abbrev pub folder_of_row : World → Numbered CreateFolderRow → Option Folder
folder_of_row w r = target_of (dirs_of w) r.row.directory

-- the folder of a row is made, with the folders above it, where they are missing
abbrev pub made_folder : World → Numbered CreateFolderRow → RowEffect
made_folder w r m = Ok (option_map_or folder_with_parents (folder_of_row w r) [])

unfoldable pub create_folders : Effect
create_folders w = Ok (map (made_folder w) (folder_rows (comes w) w))

-- the folders of leaving rows go where they are left without use
unfoldable pub remove_folders : Effect
remove_folders w = Ok (prune_folders w (filter_map (folder_of_row w) (folder_rows (leaves w) w)) ∷ [])
