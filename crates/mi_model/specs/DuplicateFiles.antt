-- What DuplicateFiles and RemoveDuplicateFiles touch. (DuplicateFile Table; DuplicateFiles Action; RemoveDuplicateFiles Action.)
use Rattle.std.specs.Prelude.{Bool, if◌then◌else◌, List, [], ◌∷◌, ◌++◌, map, codes, Option, Some, None, option_map, Result, Ok}
use Rattle.std.specs.List.{filter_map}
use Rattle.std.specs.Option.{option_flatten}
use Rattle.mi_text.specs.Maps.{Name, same_name}
use Rattle.mi_text.specs.Fold.{folded}
use Rattle.mi_text.specs.Path.{up_to_last}
use Rattle.mi_base.specs.declared.entry.FileEntry.{FileEntry}
use Rattle.mi_base.specs.Machine.{file_at}
use Rattle.mi_schema.specs.declared.typed_rows.DuplicateFileRow.{DuplicateFileRow}
use Rattle.mi_model.specs.Texts.{Text}
use Rattle.mi_base.specs.declared.answers.Fault.{Fault}
use Rattle.mi_model.specs.World.{World, RowEffect, Effect}
use Rattle.mi_schema.specs.TableRows.{Numbered}
use Rattle.mi_changes.specs.Touches.{Touch}
use Rattle.mi_model.specs.Asked.{comes, leaves}
use Rattle.mi_model.specs.Refusals.{◌>>=◌}
use Rattle.mi_model.specs.ComponentRows.{rows_that}
use Rattle.mi_model.specs.FilePaths.{copy_path, original_path, right_path, takes_file}
use Rattle.mi_model.specs.InstallFiles.{file_with_parents}
use Rattle.mi_model.specs.Prune.{prune_folders}
use Rattle.mi_base.specs.declared.entry.Entry.{Entry}

abbrev pub copy_rows : (Name → Bool) → World → List (Numbered DuplicateFileRow)
copy_rows test w = rows_that (λ (r : DuplicateFileRow). r.file_key) (λ (r : DuplicateFileRow). r.component) test w.given.rows.duplicate_file

-- nothing where the folder of the row is empty; else over its path, or the refusal of the row
abbrev pub with_path : Numbered DuplicateFileRow → Option (Option Text) → (Text → Result (List (Touch Entry)) Fault) → Result (List (Touch Entry)) Fault
with_path r None next = Ok []
with_path r (Some path) next = right_path (codes "DuplicateFile") r.number path >>= next

abbrev pub with_copy : World → Numbered DuplicateFileRow → (Text → Result (List (Touch Entry)) Fault) → Result (List (Touch Entry)) Fault
with_copy w r next = with_path r (copy_path w r.row) next

-- ---- DuplicateFiles, each row over what the earlier ones left

-- the file at another path, made at this moment
abbrev pub copied_file : World → Text → FileEntry → FileEntry
copied_file w path f = record { shown = path; version = f.version; languages = f.languages; created = w.given.now; modified = w.given.now; attributes = f.attributes; bytes = f.bytes }

-- a copy onto itself does nothing, nor does the copy of a file that isn't there
abbrev pub copies : World → Text → Text → Option FileEntry → List (Touch Entry)
copies w path original None = []
copies w path original (Some f) = if same_name (folded path) (folded original) then [] else file_with_parents (copied_file w path f)

-- the path of the copy is judged before that of the file
abbrev pub copied_row : World → Numbered DuplicateFileRow → RowEffect
copied_row w r m = with_copy w r (λ path. right_path (codes "DuplicateFile") r.number (original_path w r.row) >>= λ original. Ok (copies w path original (file_at m original)))

unfoldable pub duplicate_files : Effect
duplicate_files w = Ok (map (copied_row w) (copy_rows (comes w) w))

-- ---- RemoveDuplicateFiles

abbrev pub removed_copy : World → Numbered DuplicateFileRow → RowEffect
removed_copy w r m = with_copy w r (λ path. Ok (takes_file w path))

-- the folders of the copies of leaving rows, whether or not one went
abbrev pub touched_folders : World → List Text
touched_folders w = filter_map (λ (r : Numbered DuplicateFileRow). option_map up_to_last (option_flatten (copy_path w r.row))) (copy_rows (leaves w) w)

unfoldable pub remove_duplicate_files : Effect
remove_duplicate_files w = Ok (map (removed_copy w) (copy_rows (leaves w) w) ++ prune_folders w (touched_folders w) ∷ [])
