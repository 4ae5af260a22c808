-- The rows of the known tables, by their keys, and what the product's properties say. (Database Tables.)
use Rattle.std.specs.Prelude.{ℕ, suc, Bool, List, [], ◌∷◌, ◌++◌, map, find, codes, Option, option_map, unwrap_or}
use Rattle.std.specs.FinMap.{values, from_entries}
use Rattle.mi_text.specs.Maps.{Name, Map, same_name}
use Rattle.mi_text.specs.Guid.{guid_of}
use Rattle.mi_schema.specs.TypedRows.{ComponentRow, ConditionRow, CreateFolderRow, CustomActionRow, DirectoryRow, DuplicateFileRow, EnvironmentRow, FeatureRow, FeatureComponentsRow, FileRow, InstallExecuteSequenceRow, LaunchConditionRow, MsiFileHashRow, PropertyRow, RegistryRow, RemoveFileRow, RemoveRegistryRow, ShortcutRow, SummaryInformationRow, UpgradeRow}

-- the rows of each known table, in file order, and whether the source has short names
pub record Rows : Type 0 where
  pub short_names : Bool
  pub component : List ComponentRow
  pub condition : List ConditionRow
  pub create_folder : List CreateFolderRow
  pub custom_action : List CustomActionRow
  pub directory : List DirectoryRow
  pub duplicate_file : List DuplicateFileRow
  pub environment : List EnvironmentRow
  pub feature : List FeatureRow
  pub feature_components : List FeatureComponentsRow
  pub file : List FileRow
  pub install_execute_sequence : List InstallExecuteSequenceRow
  -- each with the text of its condition, which is its key
  pub launch_condition : List (Name × LaunchConditionRow)
  pub msi_file_hash : List MsiFileHashRow
  pub property : List PropertyRow
  pub registry : List RegistryRow
  pub remove_file : List RemoveFileRow
  pub remove_registry : List RemoveRegistryRow
  pub shortcut : List ShortcutRow
  pub summary_information : List SummaryInformationRow
  pub upgrade : List UpgradeRow

-- a row, and its number in the file, from 1
pub record Numbered (R : Type 0) : Type 0 where
  pub number : ℕ
  pub row : R

abbrev pub numbered_from : {R : Type 0} → ℕ → List R → List (Numbered R)
numbered_from n [] = []
numbered_from n (r ∷ rows) = record { number = n; row = r } ∷ numbered_from (suc n) rows

-- the rows by their keys, of which no two are the same
abbrev pub by_key : {R : Type 0} → (R → Name) → List R → Map (Numbered R)
by_key {R} key rows = from_entries (map (λ (r : Numbered R). (key r.row, r)) (numbered_from 1 rows))

-- the rows in byte order of their keys
unfoldable pub in_key_order : {R : Type 0} → (R → Name) → List R → List (Numbered R)
in_key_order key rows = values (by_key key rows)

-- the parts of a key, joined by byte 0
abbrev pub joined_key : Name → Name → Name
joined_key a b = a ++ 0 ∷ b

-- the row of a key
abbrev pub row_of : {R : Type 0} → (R → Name) → List R → Name → Option R
row_of key rows name = find (λ r. same_name name (key r)) rows

abbrev pub component_row_of : Rows → Name → Option ComponentRow
component_row_of rows c = row_of (λ (r : ComponentRow). r.component) rows.component c

abbrev pub file_row_of : Rows → Name → Option FileRow
file_row_of rows f = row_of (λ (r : FileRow). r.file) rows.file f

abbrev pub feature_row_of : Rows → Name → Option FeatureRow
feature_row_of rows f = row_of (λ (r : FeatureRow). r.feature) rows.feature f

-- a value of the Property table, whatever the property of that name was set to; empty where it isn't there
abbrev pub table_value : Rows → Name → List ℕ
table_value rows name = unwrap_or (option_map (λ (r : PropertyRow). r.value) (row_of (λ (r : PropertyRow). r.property) rows.property name)) []

-- the number of the product's code (ProductCode property)
unfoldable pub product_code : Rows → ℕ
product_code rows = unwrap_or (guid_of (table_value rows (codes "ProductCode"))) 0
