-- Which rows take files away, and which files, by what phases ask. (RemoveFile Table; RemoveFiles Action. Guards are this
-- project's own.)
use Rattle.std.specs.Prelude.{ℕ, Bool, ◌&&◌, ◌||◌, not, if◌then◌else◌, List, ◌++◌, map, Option, None, option_map, is_none, Ok}
use Rattle.std.specs.List.{filter_map}
use Rattle.std.specs.Option.{option_flatten}
use Rattle.mi_text.specs.Maps.{Name}
use Rattle.mi_text.specs.Fold.{folded}
use Rattle.mi_text.specs.Path.{up_to_last}
use Rattle.mi_dirs.specs.Places.{Folder}
use Rattle.mi_schema.specs.declared.typed_rows.DuplicateFileRow.{DuplicateFileRow}
use Rattle.mi_schema.specs.declared.typed_rows.FileRow.{FileRow}
use Rattle.mi_schema.specs.declared.typed_rows.RemoveFileRow.{RemoveFileRow}
use Rattle.mi_model.specs.Texts.{Text}
use Rattle.mi_model.specs.World.{World, RowEffect}
use Rattle.mi_model.specs.Conditions.{has}
use Rattle.mi_model.specs.FilePaths.{path_of_row, copy_path, right_path, takes_file}
use Rattle.mi_model.specs.Refusals.{◌>>=◌}
use Rattle.mi_model.specs.RemoveFiles.{folder_of_row, lies_in}
use Rattle.mi_records.specs.Choices.{Choices}

-- a row of RemoveFile is in force
abbrev pub is_in_force : Choices → RemoveFileRow → Bool
is_in_force c r = (c.local r.component && has 1 r.install_mode) || (c.leaving r.component && has 2 r.install_mode)

-- what a folder and a pattern take: guarded names too where the row is of a local component
abbrev pub takes : (Name → Bool) → Bool → Folder → Text → Name → Bool
takes guarded local folder pattern q = lies_in folder pattern q && (local || not (guarded q))

-- what a row of a table takes whose path is this
abbrev pub path_effect : World → Text → ℕ → Option Text → RowEffect
path_effect w table number path m = right_path table number path >>= λ p. Ok (takes_file w p)

-- ---- the folders that rows touch

-- that of the path of a row of File
abbrev pub folder_above : World → FileRow → Option Text
folder_above w r = option_map up_to_last (path_of_row w r)

-- that of the path of a copy
abbrev pub folder_of_copy : World → DuplicateFileRow → Option Text
folder_of_copy w r = option_map up_to_last (option_flatten (copy_path w r))

-- that of a row of RemoveFile without a FileName
abbrev pub folder_touched : World → RemoveFileRow → Option Text
folder_touched w r = if is_none r.file_name then option_flatten (folder_of_row w r) else None

-- behind these places, those of the folders that rows tell
abbrev pub touched_more : {R : Type 0} → (R → Option Text) → List R → List (List ℕ) → List (List ℕ)
touched_more tell rows places = places ++ map folded (filter_map tell rows)
