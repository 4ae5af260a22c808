-- What InstallFiles touches: the paths of the coming rows of File that are written, each with the bytes that the source has.
-- (InstallFiles Action; File Table; File Versioning Rules.)
use Rattle.std.specs.Prelude.{ℕ, ◌==◌, Bool, if◌then◌else◌, List, [], ◌∷◌, ◌++◌, map, find, length, bit_and, codes, Option, Some, None, option_map, Result, Ok, Err}
use Rattle.std.specs.Option.{option_map_or, option_or}
use Rattle.std.specs.Int.{cast_unsigned, w32}
use Rattle.std.specs.FinMap.{get}
use Rattle.mi_text.specs.Maps.{same_name}
use Rattle.mi_text.specs.Fold.{folded}
use Rattle.mi_base.specs.declared.entry.FileEntry.{FileEntry}
use Rattle.mi_base.specs.declared.entry.Entry.TheVariants as entry
use Rattle.mi_base.specs.Names.{file_name}
use Rattle.mi_rows.specs.Values.{bits_of}
use Rattle.mi_schema.specs.declared.typed_rows.FileRow.{FileRow}
use Rattle.mi_model.specs.Texts.{Text}
use Rattle.mi_base.specs.declared.answers.Fault.{Fault}
use Rattle.mi_base.specs.declared.answers.Fault.TheVariants.{SameTarget, Missing, SizeDiffers}
use Rattle.mi_model.specs.World.{World, RowEffect, Effect}
use Rattle.mi_schema.specs.TableRows.{Numbered}
use Rattle.mi_changes.specs.Touches.{Touch, Set}
use Rattle.mi_model.specs.Asked.{comes}
use Rattle.mi_model.specs.Refusals.{◌>>=◌, each, unless}
use Rattle.mi_model.specs.FilePaths.{path_of_row, source_path, right_path}
use Rattle.mi_model.specs.ComponentRows.{rows_that}
use Rattle.mi_model.specs.Parents.{parents_of_path}
use Rattle.mi_model.specs.FileVersions.{version_of_row, languages_of_row, is_written}
use Rattle.mi_base.specs.declared.entry.Entry.{Entry}

-- ---- the coming rows and their paths

-- a row, and the path of its file
pub record Placed : Type 0 where
  pub row : FileRow
  pub path : Text

abbrev pub coming_files : World → List (Numbered FileRow)
coming_files w = rows_that (λ (r : FileRow). r.file) (λ (r : FileRow). r.component) (comes w) w.given.rows.file

abbrev pub placed : World → Numbered FileRow → Result Placed Fault
placed w r = right_path (codes "File") r.number (path_of_row w r.row) >>= λ path. Ok (record { row = r.row; path = path })

-- the coming rows with their paths, or the first path that is refused
abbrev pub all_placed : World → Result (List Placed) Fault
all_placed w = each (placed w) (coming_files w)

-- ---- no two rows of one path

-- these rows have one path, in whichever case
abbrev pub have_one_path : Placed → Placed → Bool
have_one_path a b = same_name (folded a.path) (folded b.path)

-- the first row whose path an earlier row has; `before` are those before the others
abbrev pub same_target : List Placed → List Placed → Option Fault
same_target before [] = None
same_target before (p ∷ rows) = option_or (option_map (λ (a : Placed). SameTarget a.row.file p.row.file) (find (have_one_path p) before)) (same_target (before ++ p ∷ []) rows)

-- ---- the written file

-- bits 1, 2 and 4 of the attributes: read-only, hidden, system; none where they are null
abbrev pub attributes_of_row : FileRow → ℕ
attributes_of_row r = option_map_or (λ attributes. bit_and (bits_of attributes) 7) r.attributes 0

abbrev pub installed_file : World → Placed → List ℕ → FileEntry
installed_file w p bytes = record { shown = p.path; version = version_of_row p.row; languages = languages_of_row p.row; created = w.given.now; modified = w.given.now; attributes = attributes_of_row p.row; bytes = bytes }

-- a written file brings its missing folders
unfoldable pub file_with_parents : FileEntry → List (Touch Entry)
file_with_parents f = parents_of_path f.shown ++ Set (file_name f.shown) (λ old. Some (entry.File f)) ∷ []

-- ---- the bytes in the source

abbrev pub stated_size : FileRow → ℕ
stated_size r = cast_unsigned w32 r.file_size

abbrev pub right_size : FileRow → List ℕ → Result (List ℕ) Fault
right_size r bytes = if length bytes == stated_size r then Ok bytes else Err (SizeDiffers r.file (stated_size r) (length bytes))

abbrev pub right_file : FileRow → Option (List ℕ) → Result (List ℕ) Fault
right_file r None = Err (Missing r.file)
right_file r (Some bytes) = right_size r bytes

-- those of the row's file, where it is there and has as many as the row states
unfoldable pub source_bytes : World → FileRow → Result (List ℕ) Fault
source_bytes w r = right_file r (get w.given.files (source_path w r))

-- ---- the phase

-- whether a row is written is said by the machine before the phase
abbrev pub installed_row : World → Placed → RowEffect
installed_row w p m = if is_written w p.row then (source_bytes w p.row >>= λ bytes. Ok (file_with_parents (installed_file w p bytes))) else Ok []

abbrev pub installed_rows : World → List Placed → Result (List RowEffect) Fault
installed_rows w rows = unless (same_target [] rows) (Ok (map (installed_row w) rows))

-- all paths are judged before any row is, and no two of them are one
unfoldable pub install_files : Effect
install_files w = all_placed w >>= installed_rows w
