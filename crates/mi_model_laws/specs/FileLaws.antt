-- What RemoveFiles and InstallFiles leave, path by path: laws for those who read the definitions.
-- (RemoveFiles Action; InstallFiles Action; Companion Files.)
use Rattle.std.specs.Prelude.{map, flat_map, ◌≡◌, ◌⊎◌, ℕ, zero, suc, length, ◌&&◌, ◌||◌, not, Bool, false, if◌then◌else◌, List, [], find, Option, Some, None, is_none, option_map, Ok}
use Rattle.std.specs.List.{list_any}
use Rattle.std.specs.Option.{option_map_or, option_flatten, option_or}
use Rattle.std.specs.FinMap.{get}
use Rattle.mi_text.specs.Maps.{Name, same_name}
use Rattle.mi_text.specs.Fold.{folded}
use Rattle.mi_text.specs.Path.{up_to_last}
use Rattle.mi_base.specs.declared.entry.FileEntry.{FileEntry}
use Rattle.mi_base.specs.Names.{file_name, folder_name}
use Rattle.mi_base.specs.Machine.{Machine, file_at}
use Rattle.mi_dirs.specs.Places.{Folder}
use Rattle.mi_schema.specs.Checks.{companion_of}
use Rattle.mi_schema.specs.declared.typed_rows.FileRow.{FileRow}
use Rattle.mi_schema.specs.declared.typed_rows.RemoveFileRow.{RemoveFileRow}
use Rattle.mi_model.specs.Texts.{Text}
use Rattle.mi_model.specs.World.{World}
use Rattle.mi_schema.specs.TableRows.{Numbered, file_row_of}
use Rattle.mi_model.specs.Asked.{comes}
use Rattle.mi_text.specs.FileNames.{long_name}
use Rattle.mi_model.specs.ComponentRows.{is_local}
use Rattle.mi_model_laws.specs.PhaseLaws.{IsAfter, first_named}
use Rattle.mi_base.specs.declared.entry.Entry.{Entry}
use Rattle.mi_base.specs.declared.entry.Entry.TheVariants as entry
use Rattle.mi_model.specs.Parents.{folders_down_to}
use Rattle.mi_model.specs.FilePaths.{source_path, is_guarded_file, file_named}
use Rattle.mi_model.specs.RemoveFiles.{leaving_files, rows_in_force, folder_of_row, lies_in, remove_files}
use Rattle.mi_model.specs.FileVersions.{is_written, file_there, leader_of}
use Rattle.mi_model.specs.InstallFiles.{Placed, all_placed, installed_file, install_files}

-- ---- RemoveFiles

-- a row names this file
abbrev pub is_name : Name → Option Name → Bool
is_name q named = option_map_or (same_name q) named false

-- a row of File of a leaving component names it
abbrev pub is_leaving_file : World → Name → Bool
is_leaving_file w q = list_any (λ r. is_name q (file_named w r)) (leaving_files w)

-- a row of RemoveFile names it: it lies in the row's folder, under a name of the row's pattern
abbrev pub is_matched_by : World → RemoveFileRow → Name → Bool
is_matched_by w r q = option_map_or (λ (folder : Folder). option_map_or (λ name. lies_in folder (long_name name) q) r.file_name false) (option_flatten (folder_of_row w r)) false

-- a row in force names it, and the row's component is local, or the file isn't guarded
abbrev pub is_matched : World → Name → Bool
is_matched w q = list_any (λ (r : Numbered RemoveFileRow). is_matched_by w r.row q && (is_local w r.row.component || not (is_guarded_file w q))) (rows_in_force w)

abbrev pub is_removed : World → Name → Bool
is_removed w q = (is_leaving_file w q && not (is_guarded_file w q)) || is_matched w q

abbrev pub files_after_remove : World → Text → Option FileEntry
files_after_remove w path = if is_removed w (file_name path) then None else file_at w.machine path

pub record FilesAreRemoved : Type 0 where
  pub files : (w : World) (m : Machine) → IsAfter remove_files w m → (path : Text) → file_at m path ≡ files_after_remove w path

-- ---- InstallFiles

-- the coming row that writes a file there
abbrev pub writer_of : World → List Placed → Text → Option Placed
writer_of w rows path = find (λ (p : Placed). same_name (folded path) (folded p.path) && is_written w p.row) rows

-- the file that a row writes, with the bytes of the source
abbrev pub brought_by : World → Placed → Option FileEntry
brought_by w p = option_map (installed_file w p) (get w.given.files (source_path w p.row))

-- a path that no row writes is as before
abbrev pub files_after_install : World → List Placed → Text → Option FileEntry
files_after_install w rows path = option_map_or (brought_by w) (writer_of w rows path) (file_at w.machine path)

-- the folders in which a written row's file lies
abbrev pub folders_of_file : World → Placed → List Entry
folders_of_file w p = if is_written w p.row then map entry.Folder (folders_down_to (up_to_last p.path)) else []

pub record FilesAreInstalled : Type 0 where
  pub files : (w : World) (m : Machine) (rows : List Placed) → all_placed w ≡ Ok rows → IsAfter install_files w m → (path : Text) → file_at m path ≡ files_after_install w rows path
  -- a folder that stands stays as it is shown, and a missing one in which a written file lies is made
  pub folders : (w : World) (m : Machine) (rows : List Placed) → all_placed w ≡ Ok rows → IsAfter install_files w m → (folder : Text) →
      get m (folder_name folder) ≡ option_or (get w.machine (folder_name folder)) (first_named (folder_name folder) (flat_map (folders_of_file w) rows))

-- from this row on, each followed by the one that it follows, one that follows none is reached in at most so many steps
abbrev pub EndsIn : World → ℕ → FileRow → Type 0
EndsIn w zero r = leader_of w r ≡ None
EndsIn w (suc k) r = (leader_of w r ≡ None) ⊎ ((f : FileRow) × (leader_of w r ≡ Some f) × EndsIn w k f)

-- A companion is written where nothing is there, or the coming row that it follows is written. In a lawful package each chain ends so.
abbrev pub CompanionsFollow : Type 0
CompanionsFollow =
    (w : World) (r leader : FileRow) (key : Name) (k : ℕ) → length w.given.rows.file ≡ suc k → EndsIn w k leader →
    companion_of r.version ≡ Some key → file_row_of w.given.rows key ≡ Some leader →
    is_written w r ≡ (is_none (file_there w r) || (comes w leader.component && is_written w leader))
