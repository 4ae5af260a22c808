-- The paths that rows of File and DuplicateFile name, where the files' bytes lie in the source, and which paths are guarded.
-- (File Table; DuplicateFile Table; Directory Table; Filename.)
use Rattle.std.specs.Prelude.{ℕ, ◌||◌, Bool, if◌then◌else◌, List, [], ◌∷◌, Option, Some, None, option_map, option_and_then, unwrap_or, ok_or, Result}
use Rattle.std.specs.Option.{option_flatten}
use Rattle.std.specs.Result.{result_ok}
use Rattle.mi_text.specs.Maps.{Name}
use Rattle.mi_text.specs.Path.{file_of}
use Rattle.mi_base.specs.Names.{file_name}
use Rattle.mi_source.specs.Paths.{path_in}
use Rattle.mi_props.specs.Props.{value_in}
use Rattle.mi_dirs.specs.Places.{Folder, source_of}
use Rattle.mi_dirs.specs.Rows.{from_property}
use Rattle.mi_schema.specs.declared.typed_rows.ComponentRow.{ComponentRow}
use Rattle.mi_schema.specs.declared.typed_rows.FileRow.{FileRow}
use Rattle.mi_schema.specs.declared.typed_rows.DuplicateFileRow.{DuplicateFileRow}
use Rattle.mi_model.specs.Texts.{Text}
use Rattle.mi_base.specs.declared.answers.Fault.{Fault}
use Rattle.mi_base.specs.declared.answers.Fault.TheVariants.{BadPath}
use Rattle.mi_model.specs.World.{World}
use Rattle.mi_schema.specs.TableRows.{Numbered, component_row_of, file_row_of}
use Rattle.mi_changes.specs.Touches.{Touch, Set}
use Rattle.mi_model.specs.Asked.{component_folder, path_of_file, dirs_of}
use Rattle.mi_text.specs.FileNames.{long_name, short_name}
use Rattle.mi_model.specs.ComponentRows.{is_guarded_by}
use Rattle.mi_base.specs.declared.entry.Entry.{Entry}

-- ---- the file of a row of File

-- its path, the long name in the folder of its component; None where it is past the limits
abbrev pub path_of_row : World → FileRow → Option Text
path_of_row w r = path_of_file w.given.rows (dirs_of w) r

-- the directory of a component, in the source
abbrev pub component_source : World → Name → Text
component_source w c = unwrap_or (option_and_then (λ (r : ComponentRow). source_of (dirs_of w) r.directory) (component_row_of w.given.rows c)) []

abbrev pub source_name : Bool → FileRow → Text
source_name short r = if short then short_name r.file_name else long_name r.file_name

-- where its bytes lie in the source: under the short name or the long one, as the package says (Word Count Summary property)
unfoldable pub source_path : World → FileRow → Name
source_path w r = path_in (component_source w r.component) (source_name w.given.rows.short_names r)

-- ---- the copy of a row of DuplicateFile

abbrev pub file_of_copy : World → DuplicateFileRow → Option FileRow
file_of_copy w r = file_row_of w.given.rows r.file

abbrev pub folder_of_file : World → FileRow → Option Folder
folder_of_file w r = component_folder w.given.rows (dirs_of w) r.component

-- The folder of the copy: that of the file, or the one that the property DestFolder names. None where that property is empty;
-- Some None where its value is no folder.
abbrev pub copy_folder : World → FileRow → Option Text → Option (Option Folder)
copy_folder w f None = Some (folder_of_file w f)
copy_folder w f (Some property) = from_property (value_in w.props property)

-- its name, or that of the file
abbrev pub copy_name : FileRow → Option Text → Text
copy_name f name = long_name (unwrap_or name f.file_name)

abbrev pub copy_of : World → DuplicateFileRow → FileRow → Option (Option Text)
copy_of w r f = option_map (option_and_then (λ folder. result_ok (file_of folder (copy_name f r.dest_name)))) (copy_folder w f r.dest_folder)

-- the path of the copy; None where nothing is copied or taken away, Some None where it is refused
unfoldable pub copy_path : World → DuplicateFileRow → Option (Option Text)
copy_path w r = option_and_then (copy_of w r) (file_of_copy w r)

-- the path of the file that is copied
abbrev pub original_path : World → DuplicateFileRow → Option Text
original_path w r = option_and_then (path_of_row w) (file_of_copy w r)

-- ---- refusals

-- a path, or that its row is refused
abbrev pub right_path : {A : Type 0} → Text → ℕ → Option A → Result A Fault
right_path table row path = ok_or path (BadPath table row)

-- ---- guards: what rows of kept components name; a row whose path is refused names nothing

abbrev pub file_named : World → Numbered FileRow → Option Name
file_named w r = option_map file_name (path_of_row w r.row)

abbrev pub copy_named : World → Numbered DuplicateFileRow → Option Name
copy_named w r = option_map file_name (option_flatten (copy_path w r.row))

-- a row of File or DuplicateFile of a kept component names this file
unfoldable pub is_guarded_file : World → Name → Bool
is_guarded_file w name =
    is_guarded_by w (λ (r : FileRow). r.component) (file_named w) w.given.rows.file name
    || is_guarded_by w (λ (r : DuplicateFileRow). r.component) (copy_named w) w.given.rows.duplicate_file name

-- what a leaving row takes away: the file at its path, unless that is guarded
abbrev pub takes_file : World → Text → List (Touch Entry)
takes_file w path = if is_guarded_file w (file_name path) then [] else Set (file_name path) (λ old. None) ∷ []
