-- Of each table that names rows, the first column of a row, from 1, that names one that isn't there. (Database Tables;
-- Component table, KeyPath; Custom Action Type 35.)
use Rattle.std.specs.Prelude.{ℕ, ℤ, ◌==◌, Bool, if◌then◌else◌, List, map, bit_and, Option, Some, None}
use Rattle.mi_text.specs.Maps.{Name}
use Rattle.mi_schema.specs.declared.known.Target.{Target}
use Rattle.mi_schema.specs.declared.known.Target.TheVariants as of
use Rattle.mi_rows.specs.Rows.{◌or_else◌}
use Rattle.mi_rows.specs.Values.{bits_of, lacks, is_key_in}
use Rattle.mi_schema.specs.TableRows.{Rows}
use Rattle.mi_schema.specs.TypedRows.{ComponentRow, ConditionRow, CreateFolderRow, CustomActionRow, DirectoryRow, DuplicateFileRow, EnvironmentRow, FeatureRow, FeatureComponentsRow, FileRow, MsiFileHashRow, RegistryRow, RemoveFileRow, RemoveRegistryRow, ShortcutRow}

-- the keys of a table that other tables name
abbrev pub keys_in : Rows → Target → List Name
keys_in rows of.Component = map (λ r. r.component) rows.component
keys_in rows of.Directory = map (λ r. r.directory) rows.directory
keys_in rows of.Feature = map (λ r. r.feature) rows.feature
keys_in rows of.File = map (λ r. r.file) rows.file
keys_in rows of.Registry = map (λ r. r.registry) rows.registry

-- ---- the column, from 1, unless the row that it names is there

abbrev pub names : Rows → Target → ℕ → Name → Option ℕ
names rows target column key = if is_key_in (keys_in rows target) key then None else Some column

-- a null names no row
abbrev pub may_name : Rows → Target → ℕ → Option Name → Option ℕ
may_name rows target column None = None
may_name rows target column (Some key) = names rows target column key

abbrev pub must_name : Rows → Target → ℕ → Option Name → Option ℕ
must_name rows target column None = Some column
must_name rows target column (Some key) = names rows target column key

-- ---- the first column of each row that names a row that isn't there

-- a component's key path is a value of the registry where attribute 4 is set
abbrev pub key_path_target : ComponentRow → Target
key_path_target r = if lacks 4 r.attributes then of.File else of.Registry

-- an action that sets a directory
abbrev pub sets_directory : ℤ → Bool
sets_directory kind = bit_and (bits_of kind) 63 == 35

abbrev pub component_dangling : Rows → ComponentRow → Option ℕ
component_dangling rows r = names rows of.Directory 3 r.directory or_else may_name rows (key_path_target r) 6 r.key_path

abbrev pub condition_dangling : Rows → ConditionRow → Option ℕ
condition_dangling rows r = names rows of.Feature 1 r.feature

abbrev pub create_folder_dangling : Rows → CreateFolderRow → Option ℕ
create_folder_dangling rows r = names rows of.Directory 1 r.directory or_else names rows of.Component 2 r.component

abbrev pub custom_action_dangling : Rows → CustomActionRow → Option ℕ
custom_action_dangling rows r = if sets_directory r.kind then must_name rows of.Directory 3 r.source else None

abbrev pub directory_dangling : Rows → DirectoryRow → Option ℕ
directory_dangling rows r = may_name rows of.Directory 2 r.directory_parent

abbrev pub duplicate_file_dangling : Rows → DuplicateFileRow → Option ℕ
duplicate_file_dangling rows r = names rows of.Component 2 r.component or_else names rows of.File 3 r.file

abbrev pub environment_dangling : Rows → EnvironmentRow → Option ℕ
environment_dangling rows r = names rows of.Component 4 r.component

abbrev pub feature_dangling : Rows → FeatureRow → Option ℕ
feature_dangling rows r = may_name rows of.Feature 2 r.feature_parent

abbrev pub feature_components_dangling : Rows → FeatureComponentsRow → Option ℕ
feature_components_dangling rows r = names rows of.Feature 1 r.feature or_else names rows of.Component 2 r.component

abbrev pub file_dangling : Rows → FileRow → Option ℕ
file_dangling rows r = names rows of.Component 2 r.component

abbrev pub msi_file_hash_dangling : Rows → MsiFileHashRow → Option ℕ
msi_file_hash_dangling rows r = names rows of.File 1 r.file

abbrev pub registry_dangling : Rows → RegistryRow → Option ℕ
registry_dangling rows r = names rows of.Component 6 r.component

abbrev pub remove_file_dangling : Rows → RemoveFileRow → Option ℕ
remove_file_dangling rows r = names rows of.Component 2 r.component

abbrev pub remove_registry_dangling : Rows → RemoveRegistryRow → Option ℕ
remove_registry_dangling rows r = names rows of.Component 5 r.component

abbrev pub shortcut_dangling : Rows → ShortcutRow → Option ℕ
shortcut_dangling rows r = names rows of.Directory 2 r.directory or_else names rows of.Component 4 r.component
