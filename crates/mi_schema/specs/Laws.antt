-- What holds of every lawful package, for those who read it. (Database Tables.)
use Rattle.std.specs.Prelude.{◌≡◌, ◌≢◌, ◌⊎◌, ℕ, ℤ, zero, suc, pos, negsuc, ◌≤◌, ◌≤ℤ◌, ◌==◌, ◌/◌, ◌%◌, true, false, List, [], ◌∷◌, length, unwrap_or, codes, Option, Some, None, is_some, IfSome, if◌then◌else◌, All, AllPairs, Contains, ◌-◌, option_map}
use Rattle.std.specs.List.{slice_get}
use Rattle.std.specs.Map.{keys_of}
use Rattle.mi_text.specs.FileNames.{is_file_name, is_file_pattern, is_default_dir, short_name, long_name, target_part, source_part, is_pattern_part}
use Rattle.mi_text.specs.Path.{is_part}
use Rattle.mi_text.specs.Maps.{Name}
use Rattle.mi_text.specs.PropertyNames.{is_property_name}
use Rattle.mi_text.specs.Version.{version_of}
use Rattle.mi_text.specs.declared.guid.Guid.{Guid}
use Rattle.mi_idt.specs.Cells as raw
use Rattle.mi_idt.specs.Means.{cell_at}
use Rattle.mi_cond.specs.Place.{IsRead, IsPlace}
use Rattle.mi_cond.specs.Tree.{Tree}
use Rattle.mi_rows.specs.declared.column.Kind.TheVariants as kind
use Rattle.mi_schema.specs.declared.package.Package.{Package}
use Rattle.mi_rows.specs.Rows.{spelled_value}
use Rattle.mi_rows.specs.Columns.{Table}
use Rattle.mi_schema.specs.Checks.{companion_of, parent_of_directory}
use Rattle.mi_schema.specs.Dangling.{sets_directory}
use Rattle.mi_schema.specs.RowsOf.{behind}
use Rattle.mi_schema.specs.Source.{word_count as count_of, has_attributes}
use Rattle.mi_rows.specs.Texts.{is_decimal, are_languages, is_language, is_product_code, is_value_of}
use Rattle.mi_schema.specs.TypedRows.{ComponentRow, PropertyRow}
use Rattle.mi_rows.specs.Values.{lacks, is_root_below}

-- ---- words

-- of each row, whatever its key
abbrev pub EachRow : {K R : Type 0} → List (K × R) → (R → Type 0) → Type 0
EachRow entries P = All (λ e. P e.1) entries

-- so are the rows of each table
pub record OfEachTable (P : (K R : Type 0) → List (K × R) → Type 0) (p : Package) : Type 0 where
  pub component : P _ _ p.component.entries
  pub condition : P _ _ p.condition.entries
  pub create_folder : P _ _ p.create_folder.entries
  pub custom_action : P _ _ p.custom_action.entries
  pub directory : P _ _ p.directory.entries
  pub duplicate_file : P _ _ p.duplicate_file.entries
  pub environment : P _ _ p.environment.entries
  pub feature : P _ _ p.feature.entries
  pub feature_components : P _ _ p.feature_components.entries
  pub file : P _ _ p.file.entries
  pub install_execute_sequence : P _ _ p.install_execute_sequence.entries
  pub launch_condition : P _ _ p.launch_condition.entries
  pub msi_file_hash : P _ _ p.msi_file_hash.entries
  pub property : P _ _ p.property.entries
  pub registry : P _ _ p.registry.entries
  pub remove_file : P _ _ p.remove_file.entries
  pub remove_registry : P _ _ p.remove_registry.entries
  pub shortcut : P _ _ p.shortcut.entries
  pub summary_information : P _ _ p.summary_information.entries
  pub upgrade : P _ _ p.upgrade.entries

-- a key of one of these rows
abbrev pub IsKeyOf : {K R : Type 0} → List (K × R) → K → Type 0
IsKeyOf entries key = Contains (keys_of entries) key

-- no two of these rows have one key
abbrev pub HaveOwnKeys : {K R : Type 0} → List (K × R) → Type 0
HaveOwnKeys entries = AllPairs (λ a b. a.0 ≢ b.0) entries

abbrev pub IsWithin : ℤ → ℤ → ℤ → Type 0
IsWithin low high z = (low ≤ℤ z) × (z ≤ℤ high)

-- ---- keys

-- the key of each row is what it has in its key columns; that of LaunchCondition reads as its condition
pub record KeysStand (p : Package) : Type 0 where
  pub component : All (λ e. e.0 ≡ e.1.component) p.component.entries
  pub condition : All (λ e. e.0 ≡ (e.1.feature, e.1.level)) p.condition.entries
  pub create_folder : All (λ e. e.0 ≡ (e.1.directory, e.1.component)) p.create_folder.entries
  pub custom_action : All (λ e. e.0 ≡ e.1.action) p.custom_action.entries
  pub directory : All (λ e. e.0 ≡ e.1.directory) p.directory.entries
  pub duplicate_file : All (λ e. e.0 ≡ e.1.file_key) p.duplicate_file.entries
  pub environment : All (λ e. e.0 ≡ e.1.environment) p.environment.entries
  pub feature : All (λ e. e.0 ≡ e.1.feature) p.feature.entries
  pub feature_components : All (λ e. e.0 ≡ (e.1.feature, e.1.component)) p.feature_components.entries
  pub file : All (λ e. e.0 ≡ e.1.file) p.file.entries
  pub install_execute_sequence : All (λ e. e.0 ≡ e.1.action) p.install_execute_sequence.entries
  pub launch_condition : All (λ e. IsRead e.0 e.1.condition) p.launch_condition.entries
  pub msi_file_hash : All (λ e. e.0 ≡ e.1.file) p.msi_file_hash.entries
  pub property : All (λ e. e.0 ≡ e.1.property) p.property.entries
  pub registry : All (λ e. e.0 ≡ e.1.registry) p.registry.entries
  pub remove_file : All (λ e. e.0 ≡ e.1.file_key) p.remove_file.entries
  pub remove_registry : All (λ e. e.0 ≡ e.1.remove_registry) p.remove_registry.entries
  pub shortcut : All (λ e. e.0 ≡ e.1.shortcut) p.shortcut.entries
  pub summary_information : All (λ e. e.0 ≡ e.1.property_id) p.summary_information.entries
  pub upgrade : All (λ e. e.0 ≡ (e.1.upgrade_code, e.1.version_min, e.1.version_max, e.1.language, e.1.attributes)) p.upgrade.entries

-- no two rows of a table have one key
abbrev pub KeysApart : Package → Type 0
KeysApart p = OfEachTable (λ K R entries. HaveOwnKeys entries) p

-- ---- sizes

-- at most 65,535 rows
abbrev pub AreFew : {E : Type 0} → List E → Type 0
AreFew entries = length entries ≤ 65535

abbrev pub TablesSmall : Package → Type 0
TablesSmall p = OfEachTable (λ K R entries. AreFew entries) p

-- a text has at most the bytes of a table, 16,777,216
abbrev pub IsShort : List ℕ → Type 0
IsShort text = length text ≤ 16777216

abbrev pub AreShort : List (Option (List ℕ)) → Type 0
AreShort [] = Unit {0}
AreShort (o ∷ os) = IfSome o IsShort × AreShort os

-- every text of a row is short
pub record TextsShort (p : Package) : Type 0 where
  pub component : EachRow p.component.entries (λ r. AreShort (Some r.component ∷ Some r.directory ∷ r.key_path ∷ []))
  pub condition : EachRow p.condition.entries (λ r. AreShort (Some r.feature ∷ []))
  pub create_folder : EachRow p.create_folder.entries (λ r. AreShort (Some r.directory ∷ Some r.component ∷ []))
  pub custom_action : EachRow p.custom_action.entries (λ r. AreShort (Some r.action ∷ r.source ∷ r.target ∷ []))
  pub directory : EachRow p.directory.entries (λ r. AreShort (Some r.directory ∷ r.directory_parent ∷ Some r.default_dir ∷ []))
  pub duplicate_file : EachRow p.duplicate_file.entries (λ r. AreShort (Some r.file_key ∷ Some r.component ∷ Some r.file ∷ r.dest_name ∷ r.dest_folder ∷ []))
  pub environment : EachRow p.environment.entries (λ r. AreShort (Some r.environment ∷ Some r.name ∷ r.value ∷ Some r.component ∷ []))
  pub feature : EachRow p.feature.entries (λ r. AreShort (Some r.feature ∷ r.feature_parent ∷ r.title ∷ r.description ∷ r.directory ∷ []))
  pub feature_components : EachRow p.feature_components.entries (λ r. AreShort (Some r.feature ∷ Some r.component ∷ []))
  pub file : EachRow p.file.entries (λ r. AreShort (Some r.file ∷ Some r.component ∷ Some r.file_name ∷ r.version ∷ r.language ∷ []))
  pub install_execute_sequence : EachRow p.install_execute_sequence.entries (λ r. AreShort (Some r.action ∷ []))
  pub launch_condition : EachRow p.launch_condition.entries (λ r. AreShort (Some r.description ∷ []))
  pub msi_file_hash : EachRow p.msi_file_hash.entries (λ r. AreShort (Some r.file ∷ []))
  pub property : EachRow p.property.entries (λ r. AreShort (Some r.property ∷ Some r.value ∷ []))
  pub registry : EachRow p.registry.entries (λ r. AreShort (Some r.registry ∷ Some r.key ∷ r.name ∷ r.value ∷ Some r.component ∷ []))
  pub remove_file : EachRow p.remove_file.entries (λ r. AreShort (Some r.file_key ∷ Some r.component ∷ r.file_name ∷ Some r.dir_property ∷ []))
  pub remove_registry : EachRow p.remove_registry.entries (λ r. AreShort (Some r.remove_registry ∷ Some r.key ∷ r.name ∷ Some r.component ∷ []))
  pub shortcut : EachRow p.shortcut.entries (λ r. AreShort (Some r.shortcut ∷ Some r.directory ∷ Some r.name ∷ Some r.component ∷ Some r.target ∷ r.arguments ∷ r.description ∷ r.icon ∷ r.wk_dir ∷ []))
  pub summary_information : EachRow p.summary_information.entries (λ r. AreShort (r.value ∷ []))
  pub upgrade : EachRow p.upgrade.entries (λ r. AreShort (Some r.upgrade_code ∷ r.version_min ∷ r.version_max ∷ r.language ∷ r.remove ∷ Some r.action_property ∷ []))
  pub launch_condition_key : All (λ e. IsShort e.0) p.launch_condition.entries

-- ---- conditions (Conditional Statement Syntax)

-- the one tree that some short text reads as, by the grammar
abbrev pub IsOfText : Tree → Type 0
IsOfText tree = (text : List ℕ) × IsShort text × IsRead text tree

pub record ConditionsStand (p : Package) : Type 0 where
  pub component : EachRow p.component.entries (λ r. IfSome r.condition IsOfText)
  pub condition : EachRow p.condition.entries (λ r. IfSome r.condition IsOfText)
  pub install_execute_sequence : EachRow p.install_execute_sequence.entries (λ r. IfSome r.condition IsOfText)
  pub launch_condition : All (λ e. IsShort e.0 × IsRead e.0 e.1.condition) p.launch_condition.entries

-- in this row, from 1, of the table that bytes spell, a text of a column of conditions, which by the grammar stops being a
-- condition at this place
pub record StopsAt (t : Table) (bytes : List ℕ) (row place : ℕ) : Type 0 where
  pub column : ℕ
  pub of_conditions : option_map (λ c. c.kind) (slice_get t.columns column) ≡ Some kind.Condition
  pub text : List ℕ
  pub stands : cell_at (spelled_value bytes) (row - 1) column ≡ raw.Text text
  pub stops : IsPlace text place

-- ---- names (Filename; WildCardFilename; Directory table, DefaultDir)

-- a short and a long name of a file
abbrev pub AreNames : List ℕ → Type 0
AreNames text = (is_part (short_name text) ≡ true) × (is_part (long_name text) ≡ true)

-- a short and a long pattern of names
abbrev pub ArePatterns : List ℕ → Type 0
ArePatterns text = (is_pattern_part (short_name text) ≡ true) × (is_pattern_part (long_name text) ≡ true)

-- the parent's folder, or a folder with a short and a long name
abbrev pub IsFolder : List ℕ → Type 0
IsFolder text = (text ≡ codes ".") ⊎ AreNames text

pub record NamesStand (p : Package) : Type 0 where
  pub directory : EachRow p.directory.entries (λ r. (is_root_below r.directory r.directory_parent ≡ true) ⊎ (IsFolder (target_part r.default_dir) × IsFolder (source_part r.default_dir)))
  pub duplicate_file : EachRow p.duplicate_file.entries (λ r. IfSome r.dest_name AreNames)
  pub file : EachRow p.file.entries (λ r. AreNames r.file_name)
  pub remove_file : EachRow p.remove_file.entries (λ r. IfSome r.file_name ArePatterns)
  pub shortcut : EachRow p.shortcut.entries (λ r. AreNames r.name)

-- ---- references

-- the keys that a component's key path is one of
abbrev pub key_paths : Package → ComponentRow → List Name
key_paths p row = if lacks 4 row.attributes then keys_of p.file.entries else keys_of p.registry.entries

-- each row that is named is there
pub record ReferencesStand (p : Package) : Type 0 where
  pub component_directory : EachRow p.component.entries (λ r. IsKeyOf p.directory.entries r.directory)
  pub component_key_path : EachRow p.component.entries (λ r. IfSome r.key_path (Contains (key_paths p r)))
  pub condition_feature : EachRow p.condition.entries (λ r. IsKeyOf p.feature.entries r.feature)
  pub create_folder_directory : EachRow p.create_folder.entries (λ r. IsKeyOf p.directory.entries r.directory)
  pub create_folder_component : EachRow p.create_folder.entries (λ r. IsKeyOf p.component.entries r.component)
  pub custom_action_source : EachRow p.custom_action.entries (λ r. sets_directory r.kind ≡ true → (dir : Name) × (r.source ≡ Some dir) × IsKeyOf p.directory.entries dir)
  pub directory_parent : EachRow p.directory.entries (λ r. IfSome r.directory_parent (IsKeyOf p.directory.entries))
  pub duplicate_file_component : EachRow p.duplicate_file.entries (λ r. IsKeyOf p.component.entries r.component)
  pub duplicate_file_file : EachRow p.duplicate_file.entries (λ r. IsKeyOf p.file.entries r.file)
  pub environment_component : EachRow p.environment.entries (λ r. IsKeyOf p.component.entries r.component)
  pub feature_parent : EachRow p.feature.entries (λ r. IfSome r.feature_parent (IsKeyOf p.feature.entries))
  pub feature_components_feature : EachRow p.feature_components.entries (λ r. IsKeyOf p.feature.entries r.feature)
  pub feature_components_component : EachRow p.feature_components.entries (λ r. IsKeyOf p.component.entries r.component)
  pub file_component : EachRow p.file.entries (λ r. IsKeyOf p.component.entries r.component)
  pub msi_file_hash_file : EachRow p.msi_file_hash.entries (λ r. IsKeyOf p.file.entries r.file)
  pub registry_component : EachRow p.registry.entries (λ r. IsKeyOf p.component.entries r.component)
  pub remove_file_component : EachRow p.remove_file.entries (λ r. IsKeyOf p.component.entries r.component)
  pub remove_registry_component : EachRow p.remove_registry.entries (λ r. IsKeyOf p.component.entries r.component)
  pub shortcut_directory : EachRow p.shortcut.entries (λ r. IsKeyOf p.directory.entries r.directory)
  pub shortcut_component : EachRow p.shortcut.entries (λ r. IsKeyOf p.component.entries r.component)

-- ---- chains of parents

-- from this row on, parent by parent, a row without one is reached in at most so many steps
abbrev pub EndsWithin : {R : Type 0} → (R → Option Name) → List (Name × R) → ℕ → R → Type 0
EndsWithin {R} parent entries zero row = parent row ≡ None
EndsWithin {R} parent entries (suc n) row = (parent row ≡ None) ⊎ ((key : Name) × (next : R) × (parent row ≡ Some key) × Contains entries (key, next) × EndsWithin parent entries n next)

abbrev pub ChainsEnd : {R : Type 0} → (R → Option Name) → List (Name × R) → Type 0
ChainsEnd parent entries = EachRow entries (EndsWithin parent entries (length entries))

-- of Directory, of Feature, and of File, where a companion's parent is the file that its version names
pub record ParentsEnd (p : Package) : Type 0 where
  pub directory : ChainsEnd parent_of_directory p.directory.entries
  pub feature : ChainsEnd (λ r. r.feature_parent) p.feature.entries
  pub file : ChainsEnd (λ r. companion_of r.version) p.file.entries

-- ---- properties

-- the property is there, and its value passes
abbrev pub HasProperty : Package → Name → (List ℕ → Type 0) → Type 0
HasProperty p name P = (row : PropertyRow) × Contains p.property.entries (name, row) × P row.value

pub record PropertiesStand (p : Package) : Type 0 where
  pub manufacturer : HasProperty p (codes "Manufacturer") (λ value. Unit {0})
  pub product_code : HasProperty p (codes "ProductCode") (λ value. is_product_code value ≡ true)
  pub product_language : HasProperty p (codes "ProductLanguage") (λ value. is_language value ≡ true)
  pub product_name : HasProperty p (codes "ProductName") (λ value. Unit {0})
  pub product_version : HasProperty p (codes "ProductVersion") (λ value. is_some (version_of value) ≡ true)

-- ---- values

-- no two rows have this code
abbrev pub HasOtherCode : Option Guid → Option Guid → Type 0
HasOtherCode a b = IfSome a (λ code. b ≢ Some code)

-- the rules that values meet, table by table
pub record ValuesStand (p : Package) : Type 0 where
  pub component_id : AllPairs (λ a b. HasOtherCode a.1.component_id b.1.component_id) p.component.entries
  pub component_attributes : EachRow p.component.entries (λ r. lacks 97 r.attributes ≡ true)
  pub directory_one_root : AllPairs (λ a b. is_root_below a.1.directory a.1.directory_parent ≡ true → is_root_below b.1.directory b.1.directory_parent ≡ false) p.directory.entries
  pub directory_default_dir : EachRow p.directory.entries (λ r. (is_root_below r.directory r.directory_parent ≡ true) ⊎ (is_default_dir r.default_dir ≡ true))
  pub duplicate_file_name : EachRow p.duplicate_file.entries (λ r. IfSome r.dest_name (λ name. is_file_name name ≡ true))
  pub file_name : EachRow p.file.entries (λ r. is_file_name r.file_name ≡ true)
  pub file_size : EachRow p.file.entries (λ r. IsWithin (pos 0) (pos 2147483647) r.file_size)
  pub file_version : EachRow p.file.entries (λ r. IfSome (companion_of r.version) (IsKeyOf p.file.entries))
  pub file_language : EachRow p.file.entries (λ r. IfSome r.language (λ text. are_languages text ≡ true))
  pub property_name : EachRow p.property.entries (λ r. is_property_name r.property ≡ true)
  pub property_value : EachRow p.property.entries (λ r. is_value_of r.property r.value ≡ true)
  pub registry_root : EachRow p.registry.entries (λ r. IsWithin (negsuc 0) (pos 3) r.root)
  pub remove_file_name : EachRow p.remove_file.entries (λ r. IfSome r.file_name (λ name. is_file_pattern name ≡ true))
  pub remove_file_mode : EachRow p.remove_file.entries (λ r. IsWithin (pos 1) (pos 3) r.install_mode)
  pub remove_registry_root : EachRow p.remove_registry.entries (λ r. IsWithin (negsuc 0) (pos 3) r.root)
  pub shortcut_name : EachRow p.shortcut.entries (λ r. is_file_name r.name ≡ true)
  pub shortcut_hotkey : EachRow p.shortcut.entries (λ r. IfSome r.hotkey (IsWithin (pos 0) (pos 65535)))
  pub shortcut_icon_index : EachRow p.shortcut.entries (λ r. IfSome r.icon_index (IsWithin (negsuc 32766) (pos 32767)))
  pub shortcut_show_cmd : EachRow p.shortcut.entries (λ r. IfSome r.show_cmd (IsWithin (pos 0) (pos 65535)))
  pub word_count : EachRow p.summary_information.entries (λ r. r.property_id ≡ pos 15 → is_decimal (unwrap_or r.value []) ≡ true)

-- ---- the form of the source files (Word Count Summary property; File table, Attributes)

-- property 15, and 0 where it isn't there
abbrev pub word_count : Package → ℕ
word_count p = count_of (behind p.summary_information.entries)

-- no file is compressed: none has attribute 16384, and each has 8192 where bit 1 of the word count is set; bit 0 says short names
pub record SourceStands (p : Package) : Type 0 where
  pub short_names : p.short_names ≡ (word_count p % 2 == 1)
  pub not_compressed : EachRow p.file.entries (λ r. has_attributes r 16384 ≡ false)
  pub as_files : ((word_count p / 2) % 2 == 1) ≡ true → EachRow p.file.entries (λ r. has_attributes r 8192 ≡ true)
