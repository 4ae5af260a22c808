-- What RemoveFiles touches: the files of leaving components, then those that rows of RemoveFile name, then folders that are
-- left without use. (RemoveFiles Action; File Table; RemoveFile Table.)
use Rattle.std.specs.Prelude.{◌&&◌, ◌||◌, not, Bool, if◌then◌else◌, List, [], ◌∷◌, ◌++◌, map, filter, drop, nat_eq, codes, Option, Some, None, option_map, is_none, Result, Ok}
use Rattle.std.specs.List.{filter_map, starts_with}
use Rattle.std.specs.Option.{option_flatten}
use Rattle.std.specs.Str.{bytes_eq}
use Rattle.mi_text.specs.Maps.{Name}
use Rattle.mi_text.specs.Fold.{folded}
use Rattle.mi_text.specs.Path.{up_to_last, last_part}
use Rattle.mi_props.specs.Props.{value_in}
use Rattle.mi_dirs.specs.Places.{Folder}
use Rattle.mi_dirs.specs.Rows.{from_property}
use Rattle.mi_schema.specs.declared.typed_rows.FileRow.{FileRow}
use Rattle.mi_schema.specs.declared.typed_rows.RemoveFileRow.{RemoveFileRow}
use Rattle.mi_model.specs.Texts.{Text}
use Rattle.mi_base.specs.declared.answers.Fault.{Fault}
use Rattle.mi_model.specs.World.{World, RowEffect, Effect}
use Rattle.mi_schema.specs.TableRows.{Numbered, in_key_order}
use Rattle.mi_changes.specs.Touches.{Touch, Clear}
use Rattle.mi_model.specs.Asked.{leaves}
use Rattle.mi_text.specs.FileNames.{long_name}
use Rattle.mi_model.specs.Refusals.{◌>>=◌}
use Rattle.mi_model.specs.Conditions.{has}
use Rattle.mi_model.specs.ComponentRows.{is_local, rows_that}
use Rattle.mi_model.specs.FilePaths.{path_of_row, right_path, is_guarded_file, takes_file}
use Rattle.mi_model.specs.Patterns.{has_pattern}
use Rattle.mi_model.specs.Prune.{prune_folders}
use Rattle.mi_base.specs.declared.entry.Entry.{Entry}

-- ---- the files of leaving components

abbrev pub removed_file : World → Numbered FileRow → RowEffect
removed_file w r m = right_path (codes "File") r.number (path_of_row w r.row) >>= λ path. Ok (takes_file w path)

abbrev pub leaving_files : World → List (Numbered FileRow)
leaving_files w = rows_that (λ (r : FileRow). r.file) (λ (r : FileRow). r.component) (leaves w) w.given.rows.file

-- ---- the files that rows of RemoveFile name

-- the row is in force: on installation by bit 1 of InstallMode, on removal by bit 2
abbrev pub is_in_force : World → RemoveFileRow → Bool
is_in_force w r = (is_local w r.component && has 1 r.install_mode) || (leaves w r.component && has 2 r.install_mode)

abbrev pub rows_in_force : World → List (Numbered RemoveFileRow)
rows_in_force w = filter (λ (r : Numbered RemoveFileRow). is_in_force w r.row) (in_key_order (λ (r : RemoveFileRow). r.file_key) w.given.rows.remove_file)

-- the folder that its property names: None where that is empty, Some None where its value is no folder
abbrev pub folder_of_row : World → RemoveFileRow → Option (Option Folder)
folder_of_row w r = from_property (value_in w.props r.dir_property)

-- this is the name of a file that lies directly in a folder, under a name of the pattern
abbrev pub lies_in : Folder → Text → Name → Bool
lies_in folder pattern q = starts_with nat_eq q (codes "f/") && bytes_eq (up_to_last (drop 2 q)) (folded folder) && has_pattern pattern (last_part (drop 2 q))

-- whether a row of a folder and a pattern takes what has this name; where its component leaves, guarded paths stay
abbrev pub takes_name : World → RemoveFileRow → Folder → Text → Name → Bool
takes_name w r folder pattern q = lies_in folder pattern q && (is_local w r.component || not (is_guarded_file w q))

-- without a FileName a row takes no file
abbrev pub takes_in : World → RemoveFileRow → Folder → Option Text → List (Touch Entry)
takes_in w r folder None = []
takes_in w r folder (Some name) = Clear (takes_name w r folder (long_name name)) ∷ []

-- an empty property does nothing, and one that is no folder is refused
abbrev pub takes_at : World → Numbered RemoveFileRow → Option (Option Folder) → Result (List (Touch Entry)) Fault
takes_at w r None = Ok []
takes_at w r (Some folder) = right_path (codes "RemoveFile") r.number folder >>= λ f. Ok (takes_in w r.row f r.row.file_name)

abbrev pub removed_by_pattern : World → Numbered RemoveFileRow → RowEffect
removed_by_pattern w r m = takes_at w r (folder_of_row w r.row)

-- ---- the phase

-- the folders of the paths of leaving rows, whether or not a file went, and those of rows of RemoveFile without a FileName
abbrev pub touched_folders : World → List Text
touched_folders w =
    filter_map (λ (r : Numbered FileRow). option_map up_to_last (path_of_row w r.row)) (leaving_files w)
    ++ filter_map (λ (r : Numbered RemoveFileRow). if is_none r.row.file_name then option_flatten (folder_of_row w r.row) else None) (rows_in_force w)

unfoldable pub remove_files : Effect
remove_files w = Ok (map (removed_file w) (leaving_files w) ++ map (removed_by_pattern w) (rows_in_force w) ++ prune_folders w (touched_folders w) ∷ [])
