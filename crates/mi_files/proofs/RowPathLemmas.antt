-- The paths of rows, by what phases ask.
use Rattle.std.proofs.Common.{◌≡◌, true, false, cond, List, length, eqb, Option, Some, None, refl, sym, ap, ◌∙◌}
use Rattle.std.specs.Prelude.{option_map, option_and_then}
use Rattle.std.specs.Result.{result_ok}
use Rattle.mi_text.specs.Lookups.{Lookups}
use Rattle.mi_text.specs.Maps.{Name}
use Rattle.mi_text.specs.FileNames.{long_name}
use Rattle.mi_text.specs.Path.{folder_of}
use Rattle.mi_dirs.specs.Places.{Folder, Place}
use Rattle.mi_dirs.specs.Rows.{from_property}
use Rattle.mi_props.specs.Props.{value_in}
use Rattle.mi_schema.specs.declared.package.Package.{Package}
use Rattle.mi_schema.specs.declared.typed_rows.FileRow.{FileRow}
use Rattle.mi_schema.specs.declared.typed_rows.DuplicateFileRow.{DuplicateFileRow}
use Rattle.mi_schema.specs.RowsOf.{rows_in}
use Rattle.mi_schema.specs.TableRows.{Rows, file_row_of}
use Rattle.mi_model.specs.Texts.{Text}
use Rattle.mi_model.specs.World.{World}
use Rattle.mi_model.specs.Asked.{component_folder, dirs_of, lookups, lookups_over}
use Rattle.mi_model.specs.FilePaths.{path_of_row, copy_name, copy_of, copy_folder, copy_path, original_path}
use Rattle.mi_records.specs.Choices.{Choices, IsAsked}
use Rattle.mi_files.specs.Paths.{file_in, copy_named_so, copy_seen}

-- ---- a property that names a folder

pub no_folder : (value : Text) → eqb (length value) 0 ≡ true → None ≡ from_property value
no_folder value is = sym (ap (λ b. cond b None (Some (result_ok (folder_of value)))) is)

pub some_folder : (value : Text) (folder : Option Folder) → eqb (length value) 0 ≡ false → folder ≡ result_ok (folder_of value) → Some folder ≡ from_property value
some_folder value folder is named = ap Some named ∙ sym (ap (λ b. cond b None (Some (result_ok (folder_of value)))) is)

property_in : (w : World) (name : Name) → (lookups w).property name ≡ value_in w.props name
unfolding lookups lookups_over
property_in w name = refl

module _ (L : Lookups) (c : Choices) (p : Package) (w : World) (asked : IsAsked L c p w) where
  -- what a property is
  pub property_is : (name : Name) → L.property name ≡ value_in w.props name
  property_is name = ap (λ (K : Lookups). K.property name) (sym asked.lookups) ∙ property_in w name

  folder_seen : (component : Name) → component_folder (rows_in p) c.dirs component ≡ component_folder w.given.rows (dirs_of w) component
  folder_seen component =
      ap (λ (rows : Rows). component_folder rows c.dirs component) (sym asked.rows)
      ∙ ap (λ (ds : List Place). component_folder w.given.rows ds component) (sym asked.dirs)

  -- the path of a row of File
  pub row_path_is : (r : FileRow) → file_in (long_name r.file_name) (component_folder (rows_in p) c.dirs r.component) ≡ path_of_row w r
  row_path_is r = ap (file_in (long_name r.file_name)) (folder_seen r.component)

  -- the copy of a file
  copy_any : (f : FileRow) (name : Text) (o : Option Text) → copy_named_so L c (rows_in p) f name o ≡ option_map (file_in name) (copy_folder w f o)
  copy_any f name None = ap (λ (folder : Option Folder). Some (file_in name folder)) (folder_seen f.component)
  copy_any f name (Some property) = ap (λ (v : Text). option_map (file_in name) (from_property v)) (property_is property)

  copy_each : (r : DuplicateFileRow) (o : Option FileRow) → option_and_then (copy_seen L c (rows_in p) r) o ≡ option_and_then (copy_of w r) o
  copy_each r None = refl
  copy_each r (Some f) = copy_any f (copy_name f r.dest_name) r.dest_folder

  file_seen : (r : DuplicateFileRow) (o : Option FileRow) → o ≡ file_row_of (rows_in p) r.file → o ≡ file_row_of w.given.rows r.file
  file_seen r o is = is ∙ ap (λ (rows : Rows). file_row_of rows r.file) (sym asked.rows)

  pub copy_path_is : (r : DuplicateFileRow) (o : Option FileRow) → o ≡ file_row_of (rows_in p) r.file → option_and_then (copy_seen L c (rows_in p) r) o ≡ copy_path w r
  unfolding copy_path
  copy_path_is r o is = copy_each r o ∙ ap (option_and_then (copy_of w r)) (file_seen r o is)

  -- and the file
  pub original_path_is : (r : DuplicateFileRow) (o : Option FileRow) → o ≡ file_row_of (rows_in p) r.file → option_and_then (path_of_row w) o ≡ original_path w r
  original_path_is r o is = ap (option_and_then (path_of_row w)) (file_seen r o is)
