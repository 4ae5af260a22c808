-- The rows of the phases of files and folders are plain.
use Rattle.std.proofs.Common.{List, [], ◌∷◌, ◌++◌, map, codes, Option, Some, None, refl}
use Rattle.std.specs.Prelude.{Result, Ok, IfOk}
use Rattle.std.specs.Option.{option_map_or}
use Rattle.mi_text.specs.Maps.{same_name}
use Rattle.mi_text.specs.Fold.{folded}
use Rattle.mi_base.specs.declared.entry.Entry.TheVariants as entry
use Rattle.mi_base.specs.declared.entry.FileEntry.{FileEntry}
use Rattle.mi_base.specs.declared.answers.Fault.{Fault}
use Rattle.mi_base.specs.Machine.{file_at}
use Rattle.mi_base.specs.Names.{file_name}
use Rattle.mi_dirs.specs.Places.{Folder}
use Rattle.mi_text.specs.FileNames.{long_name}
use Rattle.mi_schema.specs.TableRows.{Numbered}
use Rattle.mi_schema.specs.declared.typed_rows.RemoveFileRow.{RemoveFileRow}
use Rattle.mi_schema.specs.declared.typed_rows.DuplicateFileRow.{DuplicateFileRow}
use Rattle.mi_changes.specs.Touches.{Set}
use Rattle.mi_model.specs.Texts.{Text}
use Rattle.mi_model.specs.World.{World, RowEffect}
use Rattle.mi_model.specs.Asked.{comes, leaves}
use Rattle.mi_model.specs.PhaseRows.{Touches}
use Rattle.mi_model.specs.Parents.{folder_with_parents}
use Rattle.mi_model.specs.Prune.{folder_seat, protected_folders, prune_folders}
use Rattle.mi_model.specs.FilePaths.{path_of_row, copy_path, original_path, right_path, is_guarded_file, takes_file}
use Rattle.mi_model.specs.FileVersions.{is_written}
use Rattle.mi_model.specs.InstallFiles.{Placed, same_target, installed_file, file_with_parents, source_bytes, installed_row, installed_rows, all_placed, install_files}
use Rattle.mi_model.specs.RemoveFiles as file
use Rattle.mi_model.specs.RemoveFiles.{removed_file, leaving_files, rows_in_force, takes_name, takes_in, takes_at, removed_by_pattern, remove_files}
use Rattle.mi_model.specs.DuplicateFiles as copy
use Rattle.mi_model.specs.DuplicateFiles.{copy_rows, with_path, with_copy, copied_file, copies, copied_row, duplicate_files, removed_copy, remove_duplicate_files}
use Rattle.mi_model.specs.Folders as folder
use Rattle.mi_model.specs.Folders.{folder_rows, made_folder, create_folders, remove_folders}
use Rattle.mi_laws.proofs.PlainCountLemmas.{AreOnce, none_once, one_once, clear_once}
use Rattle.mi_laws.proofs.PlainParentLemmas.{folders_of, once_in_folder}
use Rattle.mi_laws.proofs.PlainRowLemmas.{behind, unrefused, chosen, IsPlainRow, ArePlainRows, IsPlainPhase, each_plain, and_plain, pruning_plain}

-- ---- pruning

pub folders_pruned : (w : World) (touched : List Text) → IsPlainRow (prune_folders w touched)
unfolding prune_folders
folders_pruned w touched = pruning_plain folder_seat (map folded touched) (map folded (protected_folders w))

-- rows, and what is pruned behind them
pub pruned_plain : (w : World) (rows : List RowEffect) (touched : List Text) → ArePlainRows rows → ArePlainRows (rows ++ prune_folders w touched ∷ [])
pruned_plain w rows touched plain = and_plain rows (prune_folders w touched ∷ []) plain (folders_pruned w touched, tt)

-- ---- folders

pub create_folders_plain : IsPlainPhase create_folders
unfolding create_folders
create_folders_plain w code = each_plain (made_folder w) (folder_rows (comes w) w) (λ r m. at_folder (folder.folder_of_row w r))
  where
    at_folder : (o : Option Folder) → AreOnce (option_map_or folder_with_parents o [])
    at_folder None = none_once
    at_folder (Some f) = (folders_of f).once

pub remove_folders_plain : IsPlainPhase remove_folders
unfolding remove_folders
remove_folders_plain w code = (folders_pruned w _, tt)

-- ---- files

file_once : (f : FileEntry) → AreOnce (file_with_parents f)
unfolding file_with_parents file_name
file_once f = once_in_folder 102 f.shown (file_name f.shown) (λ old. Some (entry.File f)) refl refl

taken_once : (w : World) (path : Text) → AreOnce (takes_file w path)
taken_once w path = chosen AreOnce (is_guarded_file w (file_name path)) [] (Set (file_name path) (λ old. None) ∷ []) none_once (one_once (file_name path) (λ old. None))

install_row_plain : (w : World) (p : Placed) → IsPlainRow (installed_row w p)
install_row_plain w p m =
    chosen (λ r. IfOk r AreOnce) (is_written w p.row) _ (Ok [])
    (behind AreOnce (source_bytes w p.row) _ (λ bytes. file_once (installed_file w p bytes)))
    none_once

pub install_files_plain : IsPlainPhase install_files
unfolding install_files
install_files_plain w code = behind ArePlainRows (all_placed w) (installed_rows w) (λ rows.
    unrefused ArePlainRows (same_target [] rows) (Ok (map (installed_row w) rows)) (each_plain (installed_row w) rows (install_row_plain w)))

named_once : (w : World) (r : RemoveFileRow) (f : Folder) (name : Option Text) → AreOnce (takes_in w r f name)
named_once w r f None = none_once
named_once w r f (Some name) = clear_once (takes_name w r f (long_name name))

pattern_plain : (w : World) (r : Numbered RemoveFileRow) → IsPlainRow (removed_by_pattern w r)
pattern_plain w r m = at_folder (file.folder_of_row w r.row)
  where
    at_folder : (o : Option (Option Folder)) → IfOk (takes_at w r o) AreOnce
    at_folder None = none_once
    at_folder (Some f) = behind AreOnce (right_path (codes "RemoveFile") r.number f) _ (λ f. named_once w r.row f r.row.file_name)

pub remove_files_plain : IsPlainPhase remove_files
unfolding remove_files
remove_files_plain w code =
    pruned_plain w (map (removed_file w) (leaving_files w) ++ map (removed_by_pattern w) (rows_in_force w)) (file.touched_folders w)
    (and_plain (map (removed_file w) (leaving_files w)) (map (removed_by_pattern w) (rows_in_force w))
    (each_plain (removed_file w) (leaving_files w) (λ r m. behind AreOnce (right_path (codes "File") r.number (path_of_row w r.row)) _ (taken_once w)))
    (each_plain (removed_by_pattern w) (rows_in_force w) (pattern_plain w)))

-- ---- copies

at_path : (r : Numbered DuplicateFileRow) (o : Option (Option Text)) (next : Text → Result Touches Fault) → ((path : Text) → IfOk (next path) AreOnce) → IfOk (with_path r o next) AreOnce
at_path r None next h = none_once
at_path r (Some path) next h = behind AreOnce (right_path (codes "DuplicateFile") r.number path) next h

copy_once : (w : World) (path original : Text) (o : Option FileEntry) → AreOnce (copies w path original o)
copy_once w path original None = none_once
copy_once w path original (Some f) = chosen AreOnce (same_name (folded path) (folded original)) [] (file_with_parents (copied_file w path f)) none_once (file_once (copied_file w path f))

copied_row_plain : (w : World) (r : Numbered DuplicateFileRow) → IsPlainRow (copied_row w r)
copied_row_plain w r m = at_path r (copy_path w r.row) _ (λ path.
    behind AreOnce (right_path (codes "DuplicateFile") r.number (original_path w r.row)) _ (λ original. copy_once w path original (file_at m original)))

pub duplicate_files_plain : IsPlainPhase duplicate_files
unfolding duplicate_files
duplicate_files_plain w code = each_plain (copied_row w) (copy_rows (comes w) w) (copied_row_plain w)

pub remove_duplicate_files_plain : IsPlainPhase remove_duplicate_files
unfolding remove_duplicate_files
remove_duplicate_files_plain w code =
    pruned_plain w (map (removed_copy w) (copy_rows (leaves w) w)) (copy.touched_folders w)
    (each_plain (removed_copy w) (copy_rows (leaves w) w) (λ r m. at_path r (copy_path w r.row) _ (taken_once w)))
