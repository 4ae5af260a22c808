-- The paths of rows, by what phases ask. (File Table; DuplicateFile Table; Directory Table.)
use Rattle.std.specs.Prelude.{Option, Some, None, option_map, option_and_then}
use Rattle.std.specs.Result.{result_ok}
use Rattle.mi_text.specs.Lookups.{Lookups}
use Rattle.mi_text.specs.Path.{file_of}
use Rattle.mi_dirs.specs.Places.{Folder}
use Rattle.mi_dirs.specs.Rows.{from_property}
use Rattle.mi_schema.specs.declared.typed_rows.FileRow.{FileRow}
use Rattle.mi_schema.specs.declared.typed_rows.DuplicateFileRow.{DuplicateFileRow}
use Rattle.mi_schema.specs.TableRows.{Rows}
use Rattle.mi_model.specs.Texts.{Text}
use Rattle.mi_model.specs.Asked.{component_folder}
use Rattle.mi_model.specs.FilePaths.{copy_name}
use Rattle.mi_records.specs.Choices.{Choices}

-- the file of this name in a folder, where there is one
abbrev pub file_in : Text → Option Folder → Option Text
file_in name folder = option_and_then (λ folder. result_ok (file_of folder name)) folder

-- in the folder that a property names
abbrev pub copy_in : Lookups → Text → Text → Option (Option Text)
copy_in L property name = option_map (file_in name) (from_property (L.property property))

-- the copy of this name, where the row names a property and where it doesn't
abbrev pub copy_named_so : Lookups → Choices → Rows → FileRow → Text → Option Text → Option (Option Text)
copy_named_so L c rows f name None = Some (file_in name (component_folder rows c.dirs f.component))
copy_named_so L c rows f name (Some property) = copy_in L property name

abbrev pub copy_seen : Lookups → Choices → Rows → DuplicateFileRow → FileRow → Option (Option Text)
copy_seen L c rows r f = copy_named_so L c rows f (copy_name f r.dest_name) r.dest_folder
