-- What DuplicateFiles and RemoveDuplicateFiles leave, path by path. (DuplicateFiles Action; RemoveDuplicateFiles Action.)
use Rattle.std.specs.Prelude.{Bool, is_some, ◌≡◌, ◌&&◌, not, if◌then◌else◌, List, [], ◌∷◌, map, Option, Some, None, option_map}
use Rattle.std.specs.List.{list_any}
use Rattle.std.specs.Option.{option_flatten, option_or}
use Rattle.std.specs.FinMap.{get}
use Rattle.mi_text.specs.Maps.{Name, same_name}
use Rattle.mi_text.specs.Fold.{folded}
use Rattle.mi_base.specs.declared.entry.FileEntry.{FileEntry}
use Rattle.mi_base.specs.Names.{file_name, folder_name}
use Rattle.mi_base.specs.Machine.{Machine, file_at}
use Rattle.mi_schema.specs.declared.typed_rows.DuplicateFileRow.{DuplicateFileRow}
use Rattle.mi_model.specs.Texts.{Text}
use Rattle.mi_model.specs.World.{World}
use Rattle.mi_schema.specs.TableRows.{Numbered}
use Rattle.mi_model.specs.Asked.{comes, leaves}
use Rattle.mi_model_laws.specs.PhaseLaws.{IsAfter, first_named}
use Rattle.mi_base.specs.declared.entry.Entry.{Entry}
use Rattle.mi_base.specs.declared.entry.Entry.TheVariants as entry
use Rattle.mi_model.specs.Parents.{folders_down_to}
use Rattle.mi_text.specs.Path.{up_to_last}
use Rattle.mi_model.specs.FilePaths.{copy_path, original_path, is_guarded_file, copy_named}
use Rattle.mi_model.specs.DuplicateFiles.{copy_rows, copied_file, duplicate_files, remove_duplicate_files}
use Rattle.mi_model_laws.specs.FileLaws.{is_name}

-- ---- DuplicateFiles and RemoveDuplicateFiles: at each path the rows that name it, in key order

-- the copy, as an entry
abbrev pub copied_entry : World → Text → FileEntry → Entry
copied_entry w path f = entry.File (copied_file w path f)

-- what a row leaves at a path where this stood: the copy, where the row names the path and its file is there, and isn't the path itself
abbrev pub copied_to : World → Name → Option Text → Option Text → Machine → Option Entry → Option Entry
copied_to w q (Some path) (Some original) m old =
    if same_name q (file_name path) && not (same_name (folded path) (folded original)) then option_or (option_map (copied_entry w path) (file_at m original)) old else old
copied_to w q path original m old = old

-- the folders in which it lies, where one is made
abbrev pub folders_of_copy : World → Name → Option Text → Option Text → Machine → Option Entry → Option Entry
folders_of_copy w q (Some path) (Some original) m old =
    if is_some (file_at m original) && not (same_name (folded path) (folded original))
    then option_or old (first_named q (map entry.Folder (folders_down_to (up_to_last path))))
    else old
folders_of_copy w q path original m old = old

-- each row over what the earlier ones left
abbrev pub AreCopiedBy : World → Machine → List (Numbered DuplicateFileRow) → Machine → Type 0
AreCopiedBy w m [] after = (q : Name) → get after q ≡ get m q
AreCopiedBy w m (r ∷ rows) after =
    (next : Machine)
    × ((path : Text) → get next (file_name path) ≡ copied_to w (file_name path) (option_flatten (copy_path w r.row)) (original_path w r.row) m (get m (file_name path)))
    × ((folder : Text) → get next (folder_name folder) ≡ folders_of_copy w (folder_name folder) (option_flatten (copy_path w r.row)) (original_path w r.row) m (get m (folder_name folder)))
    × AreCopiedBy w next rows after

-- a row of a leaving component names the copy
abbrev pub is_copy_of_leaving : World → Name → Bool
is_copy_of_leaving w q = list_any (λ r. is_name q (copy_named w r)) (copy_rows (leaves w) w)

pub record FilesAreCopied : Type 0 where
  pub copied : (w : World) (m : Machine) → IsAfter duplicate_files w m → AreCopiedBy w w.machine (copy_rows (comes w) w) m
  pub removed : (w : World) (m : Machine) → IsAfter remove_duplicate_files w m → (path : Text) →
      file_at m path ≡ (if is_copy_of_leaving w (file_name path) && not (is_guarded_file w (file_name path)) then None else file_at w.machine path)
