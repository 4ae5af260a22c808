-- The laws of a lawful package, table by table.
use Rattle.std.proofs.Common.{◌≡◌, ◌⊎◌, ◌&&◌, ◌||◌, not, ℕ, ℤ, zero, suc, pos, negsuc, ◌<◌, Bool, true, false, cond, List, [], ◌∷◌, length, map, take, get_or, Option, Some, None, is_some, refl, sym, ap, subst, ◌∙◌, arith, inl, inr}
use Rattle.std.specs.Prelude.{IfSome, Contains, unwrap_or, codes}
use Rattle.std.specs.Option.{option_map_or}
use Rattle.std.specs.List.{list_any}
use Rattle.std.specs.Ordering.{int_eq}
use Rattle.std.specs.Map.{keys_of}
use Rattle.mi_text.specs.FileNames.{is_file_name, is_file_pattern, is_default_dir}
use Rattle.std.specs.Str.{bytes_eq}
use Rattle.mi_text.specs.Maps.{Name, same_name}
use Rattle.mi_text.proofs.MapLemmas.{same_itself}
use Rattle.mi_text.specs.PropertyNames.{is_property_name}
use Rattle.mi_text.specs.Version.{version_of}
use Rattle.mi_base.specs.declared.answers.Fault.{Fault}
use Rattle.mi_base.specs.declared.answers.Fault.TheVariants.{MissingProperty}
use Rattle.mi_cond.specs.Place.{IsRead}
use Rattle.mi_rows.specs.Cells.{Cell}
use Rattle.mi_rows.specs.Cells as cell
use Rattle.mi_rows.specs.declared.column.Kind.TheVariants as kind
use Rattle.mi_schema.specs.declared.known.Known.{Known}
use Rattle.mi_schema.specs.declared.known.Known.TheVariants as known
use Rattle.mi_schema.specs.declared.known.Target.{Target}
use Rattle.mi_schema.specs.declared.known.Target.TheVariants as of
use Rattle.mi_schema.specs.declared.typed_rows.ComponentRow.{ComponentRow}
use Rattle.mi_schema.specs.declared.typed_rows.DirectoryRow.{DirectoryRow}
use Rattle.mi_schema.specs.declared.typed_rows.FeatureRow.{FeatureRow}
use Rattle.mi_schema.specs.declared.typed_rows.FileRow.{FileRow}
use Rattle.mi_schema.specs.declared.typed_rows.PropertyRow.{PropertyRow}
use Rattle.mi_schema.specs.declared.package.Package.{Package}
use Rattle.mi_schema.specs.Checks.{Content, rows_at, chain_fault, companion_of, parent_of_directory, first_fault, missing_property}
use Rattle.mi_schema.specs.Tables.{Listed, Loaded, table_of, listed, layout_of, required_properties}
use Rattle.mi_schema.proofs.KnownTables.{component, condition, create_folder, custom_action, directory, duplicate_file, environment, feature, feature_components, file, install_execute_sequence, launch_condition, msi_file_hash, property, registry, remove_file, remove_registry, shortcut, summary_information, upgrade}
use Rattle.mi_schema.specs.Dangling.{keys_in, names, may_name, must_name, key_path_target, sets_directory}
use Rattle.mi_schema.specs.References.{rows_dangling, table_dangling}
use Rattle.mi_schema.specs.Dangling.{component_dangling, condition_dangling, create_folder_dangling, custom_action_dangling, directory_dangling, duplicate_file_dangling, environment_dangling, feature_dangling, feature_components_dangling, file_dangling, msi_file_hash_dangling, registry_dangling, remove_file_dangling, remove_registry_dangling, shortcut_dangling}
use Rattle.mi_schema.specs.RowsOf.{rows_in, behind, AreNamed, HoldsAll}
use Rattle.mi_schema.specs.Source.{has_attributes, is_source_compressed, has_short_names}
use Rattle.mi_schema.specs.TableRows.{Rows}
use Rattle.mi_schema.specs.Laws.{IsKeyOf, IsWithin, HasOtherCode, HasProperty, KeysStand, KeysApart, ReferencesStand, ParentsEnd, PropertiesStand, ValuesStand, SourceStands, TablesSmall, key_paths}
use Rattle.mi_rows.specs.Rows.{keys_of as keys_of_rows}
use Rattle.mi_rows.specs.Values.{suits, cell_at, text_in, text_at, number_in, lacks, is_root, is_root_below, is_key_in}
use Rattle.mi_rows.specs.Texts.{is_decimal, are_languages, is_language, is_product_code, is_value_of}
use Rattle.mi_schema.specs.TypedRows.{component_row, condition_row, create_folder_row, custom_action_row, directory_row, duplicate_file_row, environment_row, feature_row, feature_components_row, file_row, install_execute_sequence_row, launch_condition_row, msi_file_hash_row, property_row, registry_row, remove_file_row, remove_registry_row, shortcut_row, summary_information_row, upgrade_row}
use Rattle.mi_rows.specs.Typed.{condition_in, text_key, text_number_key, texts_key, number_key, upgrade_key}
use Rattle.mi_schema.proofs.ApartLaws.{own_keys, few_keyed, no_file, neither, without}
use Rattle.mi_schema.proofs.CellLaws.{AreTables, is_known, is_listed, none_found, IsRight, OfKind, value_at, of_table, right_parts}
use Rattle.mi_schema.proofs.ChainLaws.{found_first, get_any, chains_end}
use Rattle.mi_rows.proofs.ConditionLaws.{conditions_are}
use Rattle.mi_rows.proofs.KeyLaws.{text_cells, number_cells, texts_cells, text_number_cells, upgrade_cells, text_tells, number_tells, texts_tell, text_number_tell, upgrade_tells}
use Rattle.mi_schema.proofs.ReferenceLaws.{each_keyed, keys_keyed, suits_here, stands_here, column_at, key_there, not_null, behind_at, behind_long, each_behind, each_named, named_there, may_be_there, must_be_there, named_keys}
use Rattle.mi_schema.proofs.RowLaws.{summary_is}
use Rattle.mi_schema.proofs.ValueLaws.{pairs_keyed, any_before, one_root, other_code, text_before, number_before, root_before, kind_suits, text_there, passes, if_passes, if_name, if_pattern, within, if_within}
use Rattle.mi_rows.proofs.SuitLemmas.{or_none}
use Rattle.mi_schema.proofs.Words.{IsOfTables}
use Rattle.mi_rows.proofs.Words.{IsCondition}

-- ---- parts

-- the condition of a row that its key column reads as
condition_read : (x : Option Cell) → suits (column_at launch_condition 0) x ≡ true → OfKind x kind.Condition → IsRead (unwrap_or (text_in x) []) (condition_in x)
condition_read None on is = let wrong : false ≡ true = on in absurd cc
condition_read (Some (cell.Condition text tree)) on is = subst (λ r. IsCondition r text) is (conditions_are text)
condition_read (Some (cell.Text text)) on is = let wrong : false ≡ true = on in absurd cc
condition_read (Some (cell.Integer z)) on is = let wrong : false ≡ true = on in absurd cc
condition_read (Some (cell.Code code)) on is = let wrong : false ≡ true = on in absurd cc

known_key : (keys : List Name) (o : Option Name) → ((q : Name) → o ≡ Some q → is_key_in keys q ≡ true) → IfSome o (λ q. is_key_in keys q ≡ true)
known_key keys None h = tt
known_key keys (Some q) h = h q refl

below_root : (keys : List Name) (b : Bool) (o : Option Name) → ((q : Name) → o ≡ Some q → is_key_in keys q ≡ true) → IfSome (cond b None o) (λ q. is_key_in keys q ≡ true)
below_root keys true o h = tt
below_root keys false o h = known_key keys o h

pub companion : (keys : List Name) (o : Option (List ℕ)) → option_map_or (λ text. is_some (version_of text) || is_key_in keys text) o true ≡ true → IfSome (companion_of o) (λ q. is_key_in keys q ≡ true)
companion keys None e = tt
companion keys (Some text) e = elim (is_some (version_of text)) as (λ b. (b || is_key_in keys text) ≡ true → IfSome (cond b None (Some text)) (λ q. is_key_in keys q ≡ true)) [ true ↦ λ h. tt | false ↦ λ h. h ] e

default_dir : (root : Bool) (o : Option (List ℕ)) → is_some o ≡ true → (root || option_map_or is_default_dir o true) ≡ true → (root ≡ true) ⊎ (is_default_dir (unwrap_or o []) ≡ true)
default_dir true o some e = inl refl
default_dir false None some e = let wrong : false ≡ true = some in absurd cc
default_dir false (Some text) some e = inr e

key_of_map : (keys held : List Name) → keys ≡ held → (o : Option Name) → IfSome o (λ q. is_key_in keys q ≡ true) → IfSome o (Contains held)
key_of_map keys held same None h = tt
key_of_map keys held same (Some q) h = subst (λ (ks : List Name). Contains ks q) same (key_there keys q h)

not_missing : (b : Bool) (name : Name) → cond b None (Some (MissingProperty name)) ≡ None → b ≡ true
not_missing true name e = refl
not_missing false name e = cc

all_there : (rows : List PropertyRow) → first_fault (missing_property rows) required_properties ≡ None → (missing_property rows (codes "Manufacturer") ≡ None) × (missing_property rows (codes "ProductCode") ≡ None) × (missing_property rows (codes "ProductLanguage") ≡ None) × (missing_property rows (codes "ProductName") ≡ None) × (missing_property rows (codes "ProductVersion") ≡ None)
all_there rows e =
    let f : Name → Option Fault = missing_property rows in
    let one = or_none (f (codes "Manufacturer")) _ e in
    let two = or_none (f (codes "ProductCode")) _ one.1 in
    let three = or_none (f (codes "ProductLanguage")) _ two.1 in
    let four = or_none (f (codes "ProductName")) _ three.1 in
    let five = or_none (f (codes "ProductVersion")) None four.1 in
    (one.0, two.0, three.0, four.0, five.0)

decimal_of : (z : ℤ) (decimal : Bool) → z ≡ pos 15 → (not (int_eq z (pos 15)) || decimal) ≡ true → decimal ≡ true
decimal_of z decimal is e = sym (ap (λ (y : ℤ). not (int_eq y (pos 15)) || decimal) is) ∙ e

-- ---- the laws

-- the rows of tables without a fault
module _ (p : Package) (content : Content) (are : AreTables content) (holds : HoldsAll p content) where
  pub keys_stand : KeysStand p
  keys_stand = record {
    component = each_keyed text_key component_row (λ e. e.0 ≡ e.1.component) (rows_at content component) p.component.entries (holds known.Component) (λ n lt. refl);
    condition = each_keyed text_number_key condition_row (λ e. e.0 ≡ (e.1.feature, e.1.level)) (rows_at content condition) p.condition.entries (holds known.Condition) (λ n lt. refl);
    create_folder = each_keyed texts_key create_folder_row (λ e. e.0 ≡ (e.1.directory, e.1.component)) (rows_at content create_folder) p.create_folder.entries (holds known.CreateFolder) (λ n lt. refl);
    custom_action = each_keyed text_key custom_action_row (λ e. e.0 ≡ e.1.action) (rows_at content custom_action) p.custom_action.entries (holds known.CustomAction) (λ n lt. refl);
    directory = each_keyed text_key directory_row (λ e. e.0 ≡ e.1.directory) (rows_at content directory) p.directory.entries (holds known.Directory) (λ n lt. refl);
    duplicate_file = each_keyed text_key duplicate_file_row (λ e. e.0 ≡ e.1.file_key) (rows_at content duplicate_file) p.duplicate_file.entries (holds known.DuplicateFile) (λ n lt. refl);
    environment = each_keyed text_key environment_row (λ e. e.0 ≡ e.1.environment) (rows_at content environment) p.environment.entries (holds known.Environment) (λ n lt. refl);
    feature = each_keyed text_key feature_row (λ e. e.0 ≡ e.1.feature) (rows_at content feature) p.feature.entries (holds known.Feature) (λ n lt. refl);
    feature_components = each_keyed texts_key feature_components_row (λ e. e.0 ≡ (e.1.feature, e.1.component)) (rows_at content feature_components) p.feature_components.entries (holds known.FeatureComponents) (λ n lt. refl);
    file = each_keyed text_key file_row (λ e. e.0 ≡ e.1.file) (rows_at content file) p.file.entries (holds known.File) (λ n lt. refl);
    install_execute_sequence = each_keyed text_key install_execute_sequence_row (λ e. e.0 ≡ e.1.action) (rows_at content install_execute_sequence) p.install_execute_sequence.entries (holds known.InstallExecuteSequence) (λ n lt. refl);
    launch_condition = each_keyed text_key launch_condition_row (λ e. IsRead e.0 e.1.condition) (rows_at content launch_condition) p.launch_condition.entries (holds known.LaunchCondition) (λ n lt.
        condition_read (value_at (rows_at content launch_condition) n 0) (suits_here content are launch_condition (is_known known.LaunchCondition) 0 n lt refl) (stands_here content are launch_condition (is_known known.LaunchCondition) 0 n lt refl).1);
    msi_file_hash = each_keyed text_key msi_file_hash_row (λ e. e.0 ≡ e.1.file) (rows_at content msi_file_hash) p.msi_file_hash.entries (holds known.MsiFileHash) (λ n lt. refl);
    property = each_keyed text_key property_row (λ e. e.0 ≡ e.1.property) (rows_at content property) p.property.entries (holds known.Property) (λ n lt. refl);
    registry = each_keyed text_key registry_row (λ e. e.0 ≡ e.1.registry) (rows_at content registry) p.registry.entries (holds known.Registry) (λ n lt. refl);
    remove_file = each_keyed text_key remove_file_row (λ e. e.0 ≡ e.1.file_key) (rows_at content remove_file) p.remove_file.entries (holds known.RemoveFile) (λ n lt. refl);
    remove_registry = each_keyed text_key remove_registry_row (λ e. e.0 ≡ e.1.remove_registry) (rows_at content remove_registry) p.remove_registry.entries (holds known.RemoveRegistry) (λ n lt. refl);
    shortcut = each_keyed text_key shortcut_row (λ e. e.0 ≡ e.1.shortcut) (rows_at content shortcut) p.shortcut.entries (holds known.Shortcut) (λ n lt. refl);
    summary_information = each_keyed number_key summary_information_row (λ e. e.0 ≡ e.1.property_id) (rows_at content summary_information) p.summary_information.entries (holds known.SummaryInformation) (λ n lt. refl);
    upgrade = each_keyed upgrade_key upgrade_row (λ e. e.0 ≡ (e.1.upgrade_code, e.1.version_min, e.1.version_max, e.1.language, e.1.attributes)) (rows_at content upgrade) p.upgrade.entries (holds known.Upgrade) (λ n lt. refl);
  }

  value_passes : (n : ℕ) → n < length (rows_at content property) → is_value_of (text_at (get_or (rows_at content property) n []) 0) (text_at (get_or (rows_at content property) n []) 1) ≡ true
  value_passes n lt =
      let name : List ℕ = text_at (get_or (rows_at content property) n []) 0 in
      passes (λ value. is_value_of name value ≡ true) (text_in (value_at (rows_at content property) n 1)) (text_there (column_at property 1) (value_at (rows_at content property) n 1) refl refl (suits_here content are property (is_known known.Property) 1 n lt refl))
      (if_passes (is_value_of name) (text_in (value_at (rows_at content property) n 1)) (ap (λ (text : List ℕ). option_map_or (is_value_of text) (text_in (value_at (rows_at content property) n 1)) true) (sym (text_before (get_or (rows_at content property) n []))) ∙ (stands_here content are property (is_known known.Property) 1 n lt refl).0))

  pub values_stand : ValuesStand p
  values_stand = record {
    component_id = pairs_keyed text_key component_row (λ a b. HasOtherCode a.1.component_id b.1.component_id) (rows_at content component) p.component.entries (holds known.Component) (λ m n before lt. other_code (rows_at content component) m n before lt (stands_here content are component (is_known known.Component) 1 n lt refl).0);
    component_attributes = each_keyed text_key component_row (λ e. lacks 97 e.1.attributes ≡ true) (rows_at content component) p.component.entries (holds known.Component) (λ n lt. (stands_here content are component (is_known known.Component) 3 n lt refl).0);
    directory_one_root = pairs_keyed text_key directory_row (λ a b. is_root_below a.1.directory a.1.directory_parent ≡ true → is_root_below b.1.directory b.1.directory_parent ≡ false) (rows_at content directory) p.directory.entries (holds known.Directory) (λ m n before lt. λ root.
        ap (λ (text : List ℕ). is_root_below text (text_in (value_at (rows_at content directory) n 1))) (sym (text_before (get_or (rows_at content directory) n [])))
        ∙ one_root (is_root_below (text_at (take 1 (get_or (rows_at content directory) n [])) 0) (text_in (value_at (rows_at content directory) n 1))) (list_any is_root (take n (rows_at content directory))) (stands_here content are directory (is_known known.Directory) 1 n lt refl).0 (any_before is_root (rows_at content directory) m n before lt root));
    directory_default_dir = each_keyed text_key directory_row (λ e. (is_root_below e.1.directory e.1.directory_parent ≡ true) ⊎ (is_default_dir e.1.default_dir ≡ true)) (rows_at content directory) p.directory.entries (holds known.Directory) (λ n lt.
        default_dir (is_root (get_or (rows_at content directory) n [])) (text_in (value_at (rows_at content directory) n 2)) (text_there (column_at directory 2) (value_at (rows_at content directory) n 2) refl refl (suits_here content are directory (is_known known.Directory) 2 n lt refl))
        (ap (λ b. b || option_map_or is_default_dir (text_in (value_at (rows_at content directory) n 2)) true) (sym (root_before (get_or (rows_at content directory) n []))) ∙ (stands_here content are directory (is_known known.Directory) 2 n lt refl).0));
    duplicate_file_name = each_keyed text_key duplicate_file_row (λ e. IfSome e.1.dest_name (λ name. is_file_name name ≡ true)) (rows_at content duplicate_file) p.duplicate_file.entries (holds known.DuplicateFile) (λ n lt. if_name (value_at (rows_at content duplicate_file) n 3) (kind_suits kind.Name (column_at duplicate_file 3) (value_at (rows_at content duplicate_file) n 3) refl (suits_here content are duplicate_file (is_known known.DuplicateFile) 3 n lt refl)) (stands_here content are duplicate_file (is_known known.DuplicateFile) 3 n lt refl).1);
    file_name = each_keyed text_key file_row (λ e. is_file_name e.1.file_name ≡ true) (rows_at content file) p.file.entries (holds known.File) (λ n lt.
        passes (λ name. is_file_name name ≡ true) (text_in (value_at (rows_at content file) n 2)) (text_there (column_at file 2) (value_at (rows_at content file) n 2) refl refl (suits_here content are file (is_known known.File) 2 n lt refl)) (if_name (value_at (rows_at content file) n 2) (kind_suits kind.Name (column_at file 2) (value_at (rows_at content file) n 2) refl (suits_here content are file (is_known known.File) 2 n lt refl)) (stands_here content are file (is_known known.File) 2 n lt refl).1));
    file_size = each_keyed text_key file_row (λ e. IsWithin (pos 0) (pos 2147483647) e.1.file_size) (rows_at content file) p.file.entries (holds known.File) (λ n lt. within (pos 0) (pos 2147483647) (value_at (rows_at content file) n 3) (not_null (column_at file 3) (value_at (rows_at content file) n 3) (suits_here content are file (is_known known.File) 3 n lt refl) refl) (stands_here content are file (is_known known.File) 3 n lt refl).0);
    file_version = each_keyed text_key file_row (λ e. IfSome (companion_of e.1.version) (IsKeyOf p.file.entries)) (rows_at content file) p.file.entries (holds known.File) (λ n lt.
        key_of_map (keys_of_rows (rows_at content file)) (keys_of p.file.entries) (sym (keys_keyed text_key file_row (rows_at content file) p.file.entries (holds known.File))) (companion_of (text_in (value_at (rows_at content file) n 4)))
        (companion (keys_of_rows (rows_at content file)) (text_in (value_at (rows_at content file) n 4)) (stands_here content are file (is_known known.File) 4 n lt refl).0));
    file_language = each_keyed text_key file_row (λ e. IfSome e.1.language (λ text. are_languages text ≡ true)) (rows_at content file) p.file.entries (holds known.File) (λ n lt. if_passes are_languages (text_in (value_at (rows_at content file) n 5)) (stands_here content are file (is_known known.File) 5 n lt refl).0);
    property_name = each_keyed text_key property_row (λ e. is_property_name e.1.property ≡ true) (rows_at content property) p.property.entries (holds known.Property) (λ n lt.
        passes (λ name. is_property_name name ≡ true) (text_in (value_at (rows_at content property) n 0)) (text_there (column_at property 0) (value_at (rows_at content property) n 0) refl refl (suits_here content are property (is_known known.Property) 0 n lt refl)) (if_passes is_property_name (text_in (value_at (rows_at content property) n 0)) (stands_here content are property (is_known known.Property) 0 n lt refl).0));
    property_value = each_keyed text_key property_row (λ e. is_value_of e.1.property e.1.value ≡ true) (rows_at content property) p.property.entries (holds known.Property) (λ n lt. value_passes n lt);
    registry_root = each_keyed text_key registry_row (λ e. IsWithin (negsuc 0) (pos 3) e.1.root) (rows_at content registry) p.registry.entries (holds known.Registry) (λ n lt. within (negsuc 0) (pos 3) (value_at (rows_at content registry) n 1) (not_null (column_at registry 1) (value_at (rows_at content registry) n 1) (suits_here content are registry (is_known known.Registry) 1 n lt refl) refl) (stands_here content are registry (is_known known.Registry) 1 n lt refl).0);
    remove_file_name = each_keyed text_key remove_file_row (λ e. IfSome e.1.file_name (λ name. is_file_pattern name ≡ true)) (rows_at content remove_file) p.remove_file.entries (holds known.RemoveFile) (λ n lt. if_pattern (value_at (rows_at content remove_file) n 2) (kind_suits kind.Pattern (column_at remove_file 2) (value_at (rows_at content remove_file) n 2) refl (suits_here content are remove_file (is_known known.RemoveFile) 2 n lt refl)) (stands_here content are remove_file (is_known known.RemoveFile) 2 n lt refl).1);
    remove_file_mode = each_keyed text_key remove_file_row (λ e. IsWithin (pos 1) (pos 3) e.1.install_mode) (rows_at content remove_file) p.remove_file.entries (holds known.RemoveFile) (λ n lt. within (pos 1) (pos 3) (value_at (rows_at content remove_file) n 4) (not_null (column_at remove_file 4) (value_at (rows_at content remove_file) n 4) (suits_here content are remove_file (is_known known.RemoveFile) 4 n lt refl) refl) (stands_here content are remove_file (is_known known.RemoveFile) 4 n lt refl).0);
    remove_registry_root = each_keyed text_key remove_registry_row (λ e. IsWithin (negsuc 0) (pos 3) e.1.root) (rows_at content remove_registry) p.remove_registry.entries (holds known.RemoveRegistry) (λ n lt. within (negsuc 0) (pos 3) (value_at (rows_at content remove_registry) n 1) (not_null (column_at remove_registry 1) (value_at (rows_at content remove_registry) n 1) (suits_here content are remove_registry (is_known known.RemoveRegistry) 1 n lt refl) refl) (stands_here content are remove_registry (is_known known.RemoveRegistry) 1 n lt refl).0);
    shortcut_name = each_keyed text_key shortcut_row (λ e. is_file_name e.1.name ≡ true) (rows_at content shortcut) p.shortcut.entries (holds known.Shortcut) (λ n lt.
        passes (λ name. is_file_name name ≡ true) (text_in (value_at (rows_at content shortcut) n 2)) (text_there (column_at shortcut 2) (value_at (rows_at content shortcut) n 2) refl refl (suits_here content are shortcut (is_known known.Shortcut) 2 n lt refl)) (if_name (value_at (rows_at content shortcut) n 2) (kind_suits kind.Name (column_at shortcut 2) (value_at (rows_at content shortcut) n 2) refl (suits_here content are shortcut (is_known known.Shortcut) 2 n lt refl)) (stands_here content are shortcut (is_known known.Shortcut) 2 n lt refl).1));
    shortcut_hotkey = each_keyed text_key shortcut_row (λ e. IfSome e.1.hotkey (IsWithin (pos 0) (pos 65535))) (rows_at content shortcut) p.shortcut.entries (holds known.Shortcut) (λ n lt. if_within (pos 0) (pos 65535) (value_at (rows_at content shortcut) n 7) (stands_here content are shortcut (is_known known.Shortcut) 7 n lt refl).0);
    shortcut_icon_index = each_keyed text_key shortcut_row (λ e. IfSome e.1.icon_index (IsWithin (negsuc 32766) (pos 32767))) (rows_at content shortcut) p.shortcut.entries (holds known.Shortcut) (λ n lt. if_within (negsuc 32766) (pos 32767) (value_at (rows_at content shortcut) n 9) (stands_here content are shortcut (is_known known.Shortcut) 9 n lt refl).0);
    word_count = each_keyed number_key summary_information_row (λ e. e.1.property_id ≡ pos 15 → is_decimal (unwrap_or e.1.value []) ≡ true) (rows_at content summary_information) p.summary_information.entries (holds known.SummaryInformation) (λ n lt fifteen.
        decimal_of (number_in (cell_at (take 1 (get_or (rows_at content summary_information) n [])) 0)) (is_decimal (unwrap_or (text_in (value_at (rows_at content summary_information) n 1)) [])) (number_before (get_or (rows_at content summary_information) n []) ∙ fifteen) (stands_here content are summary_information (is_known known.SummaryInformation) 1 n lt refl).0);
    shortcut_show_cmd = each_keyed text_key shortcut_row (λ e. IfSome e.1.show_cmd (IsWithin (pos 0) (pos 65535))) (rows_at content shortcut) p.shortcut.entries (holds known.Shortcut) (λ n lt. if_within (pos 0) (pos 65535) (value_at (rows_at content shortcut) n 10) (stands_here content are shortcut (is_known known.Shortcut) 10 n lt refl).0);
  }

  pub keys_apart : KeysApart p
  keys_apart = record {
    component = own_keys text_key component_row text_cells component (rows_at content component) (of_table content are component (is_known known.Component)) refl (text_tells component.columns refl) p.component.entries (holds known.Component);
    condition = own_keys text_number_key condition_row text_number_cells condition (rows_at content condition) (of_table content are condition (is_known known.Condition)) refl (text_number_tell condition.columns refl) p.condition.entries (holds known.Condition);
    create_folder = own_keys texts_key create_folder_row texts_cells create_folder (rows_at content create_folder) (of_table content are create_folder (is_known known.CreateFolder)) refl (texts_tell create_folder.columns refl) p.create_folder.entries (holds known.CreateFolder);
    custom_action = own_keys text_key custom_action_row text_cells custom_action (rows_at content custom_action) (of_table content are custom_action (is_known known.CustomAction)) refl (text_tells custom_action.columns refl) p.custom_action.entries (holds known.CustomAction);
    directory = own_keys text_key directory_row text_cells directory (rows_at content directory) (of_table content are directory (is_known known.Directory)) refl (text_tells directory.columns refl) p.directory.entries (holds known.Directory);
    duplicate_file = own_keys text_key duplicate_file_row text_cells duplicate_file (rows_at content duplicate_file) (of_table content are duplicate_file (is_known known.DuplicateFile)) refl (text_tells duplicate_file.columns refl) p.duplicate_file.entries (holds known.DuplicateFile);
    environment = own_keys text_key environment_row text_cells environment (rows_at content environment) (of_table content are environment (is_known known.Environment)) refl (text_tells environment.columns refl) p.environment.entries (holds known.Environment);
    feature = own_keys text_key feature_row text_cells feature (rows_at content feature) (of_table content are feature (is_known known.Feature)) refl (text_tells feature.columns refl) p.feature.entries (holds known.Feature);
    feature_components = own_keys texts_key feature_components_row texts_cells feature_components (rows_at content feature_components) (of_table content are feature_components (is_known known.FeatureComponents)) refl (texts_tell feature_components.columns refl) p.feature_components.entries (holds known.FeatureComponents);
    file = own_keys text_key file_row text_cells file (rows_at content file) (of_table content are file (is_known known.File)) refl (text_tells file.columns refl) p.file.entries (holds known.File);
    install_execute_sequence = own_keys text_key install_execute_sequence_row text_cells install_execute_sequence (rows_at content install_execute_sequence) (of_table content are install_execute_sequence (is_known known.InstallExecuteSequence)) refl (text_tells install_execute_sequence.columns refl) p.install_execute_sequence.entries (holds known.InstallExecuteSequence);
    launch_condition = own_keys text_key launch_condition_row text_cells launch_condition (rows_at content launch_condition) (of_table content are launch_condition (is_known known.LaunchCondition)) refl (text_tells launch_condition.columns refl) p.launch_condition.entries (holds known.LaunchCondition);
    msi_file_hash = own_keys text_key msi_file_hash_row text_cells msi_file_hash (rows_at content msi_file_hash) (of_table content are msi_file_hash (is_known known.MsiFileHash)) refl (text_tells msi_file_hash.columns refl) p.msi_file_hash.entries (holds known.MsiFileHash);
    property = own_keys text_key property_row text_cells property (rows_at content property) (of_table content are property (is_known known.Property)) refl (text_tells property.columns refl) p.property.entries (holds known.Property);
    registry = own_keys text_key registry_row text_cells registry (rows_at content registry) (of_table content are registry (is_known known.Registry)) refl (text_tells registry.columns refl) p.registry.entries (holds known.Registry);
    remove_file = own_keys text_key remove_file_row text_cells remove_file (rows_at content remove_file) (of_table content are remove_file (is_known known.RemoveFile)) refl (text_tells remove_file.columns refl) p.remove_file.entries (holds known.RemoveFile);
    remove_registry = own_keys text_key remove_registry_row text_cells remove_registry (rows_at content remove_registry) (of_table content are remove_registry (is_known known.RemoveRegistry)) refl (text_tells remove_registry.columns refl) p.remove_registry.entries (holds known.RemoveRegistry);
    shortcut = own_keys text_key shortcut_row text_cells shortcut (rows_at content shortcut) (of_table content are shortcut (is_known known.Shortcut)) refl (text_tells shortcut.columns refl) p.shortcut.entries (holds known.Shortcut);
    summary_information = own_keys number_key summary_information_row number_cells summary_information (rows_at content summary_information) (of_table content are summary_information (is_known known.SummaryInformation)) refl (number_tells summary_information.columns refl) p.summary_information.entries (holds known.SummaryInformation);
    upgrade = own_keys upgrade_key upgrade_row upgrade_cells upgrade (rows_at content upgrade) (of_table content are upgrade (is_known known.Upgrade)) refl (upgrade_tells upgrade.columns refl) p.upgrade.entries (holds known.Upgrade);
  }

  pub tables_small : TablesSmall p
  tables_small = record {
    component = few_keyed text_key component_row component (rows_at content component) (of_table content are component (is_known known.Component)) p.component.entries (holds known.Component);
    condition = few_keyed text_number_key condition_row condition (rows_at content condition) (of_table content are condition (is_known known.Condition)) p.condition.entries (holds known.Condition);
    create_folder = few_keyed texts_key create_folder_row create_folder (rows_at content create_folder) (of_table content are create_folder (is_known known.CreateFolder)) p.create_folder.entries (holds known.CreateFolder);
    custom_action = few_keyed text_key custom_action_row custom_action (rows_at content custom_action) (of_table content are custom_action (is_known known.CustomAction)) p.custom_action.entries (holds known.CustomAction);
    directory = few_keyed text_key directory_row directory (rows_at content directory) (of_table content are directory (is_known known.Directory)) p.directory.entries (holds known.Directory);
    duplicate_file = few_keyed text_key duplicate_file_row duplicate_file (rows_at content duplicate_file) (of_table content are duplicate_file (is_known known.DuplicateFile)) p.duplicate_file.entries (holds known.DuplicateFile);
    environment = few_keyed text_key environment_row environment (rows_at content environment) (of_table content are environment (is_known known.Environment)) p.environment.entries (holds known.Environment);
    feature = few_keyed text_key feature_row feature (rows_at content feature) (of_table content are feature (is_known known.Feature)) p.feature.entries (holds known.Feature);
    feature_components = few_keyed texts_key feature_components_row feature_components (rows_at content feature_components) (of_table content are feature_components (is_known known.FeatureComponents)) p.feature_components.entries (holds known.FeatureComponents);
    file = few_keyed text_key file_row file (rows_at content file) (of_table content are file (is_known known.File)) p.file.entries (holds known.File);
    install_execute_sequence = few_keyed text_key install_execute_sequence_row install_execute_sequence (rows_at content install_execute_sequence) (of_table content are install_execute_sequence (is_known known.InstallExecuteSequence)) p.install_execute_sequence.entries (holds known.InstallExecuteSequence);
    launch_condition = few_keyed text_key launch_condition_row launch_condition (rows_at content launch_condition) (of_table content are launch_condition (is_known known.LaunchCondition)) p.launch_condition.entries (holds known.LaunchCondition);
    msi_file_hash = few_keyed text_key msi_file_hash_row msi_file_hash (rows_at content msi_file_hash) (of_table content are msi_file_hash (is_known known.MsiFileHash)) p.msi_file_hash.entries (holds known.MsiFileHash);
    property = few_keyed text_key property_row property (rows_at content property) (of_table content are property (is_known known.Property)) p.property.entries (holds known.Property);
    registry = few_keyed text_key registry_row registry (rows_at content registry) (of_table content are registry (is_known known.Registry)) p.registry.entries (holds known.Registry);
    remove_file = few_keyed text_key remove_file_row remove_file (rows_at content remove_file) (of_table content are remove_file (is_known known.RemoveFile)) p.remove_file.entries (holds known.RemoveFile);
    remove_registry = few_keyed text_key remove_registry_row remove_registry (rows_at content remove_registry) (of_table content are remove_registry (is_known known.RemoveRegistry)) p.remove_registry.entries (holds known.RemoveRegistry);
    shortcut = few_keyed text_key shortcut_row shortcut (rows_at content shortcut) (of_table content are shortcut (is_known known.Shortcut)) p.shortcut.entries (holds known.Shortcut);
    summary_information = few_keyed number_key summary_information_row summary_information (rows_at content summary_information) (of_table content are summary_information (is_known known.SummaryInformation)) p.summary_information.entries (holds known.SummaryInformation);
    upgrade = few_keyed upgrade_key upgrade_row upgrade (rows_at content upgrade) (of_table content are upgrade (is_known known.Upgrade)) p.upgrade.entries (holds known.Upgrade);
  }

  pub are_named : AreNamed p
  are_named = record {
    component = named_keys text_key component_row (λ r. r.component) (λ r. refl) (rows_at content component) p.component.entries (holds known.Component);
    directory = named_keys text_key directory_row (λ r. r.directory) (λ r. refl) (rows_at content directory) p.directory.entries (holds known.Directory);
    feature = named_keys text_key feature_row (λ r. r.feature) (λ r. refl) (rows_at content feature) p.feature.entries (holds known.Feature);
    file = named_keys text_key file_row (λ r. r.file) (λ r. refl) (rows_at content file) p.file.entries (holds known.File);
    property = named_keys text_key property_row (λ r. r.property) (λ r. refl) (rows_at content property) p.property.entries (holds known.Property);
    registry = named_keys text_key registry_row (λ r. r.registry) (λ r. refl) (rows_at content registry) p.registry.entries (holds known.Registry);
  }

key_at : (keys : List Name) (q : Name) (n : ℕ) → n < length keys → get_or keys n q ≡ q → is_key_in keys q ≡ true
key_at [] q n lt is = absurd (omega arith)
key_at (k ∷ ks) q zero lt is = ap (λ (x : Name). same_name q x || is_key_in ks q) is ∙ ap (λ b. b || is_key_in ks q) (same_itself q)
key_at (k ∷ ks) q (suc n) lt is = later (same_name q k) (is_key_in ks q) (key_at ks q n (omega arith) is)
  where
    later : (a b : Bool) → b ≡ true → (a || b) ≡ true
    later true b e = refl
    later false b e = e

key_in : (keys : List Name) (q : Name) → Contains keys q → is_key_in keys q ≡ true
key_in keys q (n, lt, is) = key_at keys q n lt is

-- ---- the rows of all tables together

module _ (p : Package) (lawful : IsOfTables p) where
  abbrev rows : Rows
  rows = rows_in p

  right : IsRight rows
  right = right_parts rows lawful.right

  keys : KeysStand p
  keys = keys_stand p lawful.content lawful.right_tables lawful.is.rows

  values : ValuesStand p
  values = values_stand p lawful.content lawful.right_tables lawful.is.rows

  named : AreNamed p
  named = are_named p lawful.content lawful.right_tables lawful.is.rows

  table_none : (k : Known) → rows_dangling rows k ≡ None
  table_none k = none_found (table_dangling rows) (λ (l : Listed). bytes_eq (layout_of k).name (table_of l).name) listed (Loaded k) (is_listed k) right.refer

  key_path : (r : ComponentRow) → (o : Option Name) → may_name rows (key_path_target r) 6 o ≡ None → IfSome o (Contains (key_paths p r))
  unfolding rows_in
  key_path r None e = tt
  key_path r (Some q) e = elim (lacks 4 r.attributes) as (λ b. names rows (cond b of.File of.Registry) 6 q ≡ None → Contains (cond b (keys_of p.file.entries) (keys_of p.registry.entries)) q) [
    | true ↦ named_there rows of.File (keys_of p.file.entries) named.file 6 q
    | false ↦ named_there rows of.Registry (keys_of p.registry.entries) named.registry 6 q
  ] e

  pub references_stand : ReferencesStand p
  unfolding rows_in
  references_stand = record {
    component_directory = each_named (layout_of known.Component).name (component_dangling rows) _ p.component.entries (λ r e. named_there rows of.Directory (keys_of p.directory.entries) named.directory 3 r.directory ((or_none (names rows of.Directory 3 r.directory) _ e).0)) (table_none known.Component);
    condition_feature = each_named (layout_of known.Condition).name (condition_dangling rows) _ p.condition.entries (λ r e. named_there rows of.Feature (keys_of p.feature.entries) named.feature 1 r.feature (e)) (table_none known.Condition);
    create_folder_directory = each_named (layout_of known.CreateFolder).name (create_folder_dangling rows) _ p.create_folder.entries (λ r e. named_there rows of.Directory (keys_of p.directory.entries) named.directory 1 r.directory ((or_none (names rows of.Directory 1 r.directory) _ e).0)) (table_none known.CreateFolder);
    create_folder_component = each_named (layout_of known.CreateFolder).name (create_folder_dangling rows) _ p.create_folder.entries (λ r e. named_there rows of.Component (keys_of p.component.entries) named.component 2 r.component ((or_none (names rows of.Directory 1 r.directory) _ e).1)) (table_none known.CreateFolder);
    directory_parent = each_named (layout_of known.Directory).name (directory_dangling rows) _ p.directory.entries (λ r e. may_be_there rows of.Directory (keys_of p.directory.entries) named.directory 2 r.directory_parent (e)) (table_none known.Directory);
    duplicate_file_component = each_named (layout_of known.DuplicateFile).name (duplicate_file_dangling rows) _ p.duplicate_file.entries (λ r e. named_there rows of.Component (keys_of p.component.entries) named.component 2 r.component ((or_none (names rows of.Component 2 r.component) _ e).0)) (table_none known.DuplicateFile);
    duplicate_file_file = each_named (layout_of known.DuplicateFile).name (duplicate_file_dangling rows) _ p.duplicate_file.entries (λ r e. named_there rows of.File (keys_of p.file.entries) named.file 3 r.file ((or_none (names rows of.Component 2 r.component) _ e).1)) (table_none known.DuplicateFile);
    environment_component = each_named (layout_of known.Environment).name (environment_dangling rows) _ p.environment.entries (λ r e. named_there rows of.Component (keys_of p.component.entries) named.component 4 r.component (e)) (table_none known.Environment);
    feature_parent = each_named (layout_of known.Feature).name (feature_dangling rows) _ p.feature.entries (λ r e. may_be_there rows of.Feature (keys_of p.feature.entries) named.feature 2 r.feature_parent (e)) (table_none known.Feature);
    feature_components_feature = each_named (layout_of known.FeatureComponents).name (feature_components_dangling rows) _ p.feature_components.entries (λ r e. named_there rows of.Feature (keys_of p.feature.entries) named.feature 1 r.feature ((or_none (names rows of.Feature 1 r.feature) _ e).0)) (table_none known.FeatureComponents);
    feature_components_component = each_named (layout_of known.FeatureComponents).name (feature_components_dangling rows) _ p.feature_components.entries (λ r e. named_there rows of.Component (keys_of p.component.entries) named.component 2 r.component ((or_none (names rows of.Feature 1 r.feature) _ e).1)) (table_none known.FeatureComponents);
    file_component = each_named (layout_of known.File).name (file_dangling rows) _ p.file.entries (λ r e. named_there rows of.Component (keys_of p.component.entries) named.component 2 r.component (e)) (table_none known.File);
    msi_file_hash_file = each_named (layout_of known.MsiFileHash).name (msi_file_hash_dangling rows) _ p.msi_file_hash.entries (λ r e. named_there rows of.File (keys_of p.file.entries) named.file 1 r.file (e)) (table_none known.MsiFileHash);
    registry_component = each_named (layout_of known.Registry).name (registry_dangling rows) _ p.registry.entries (λ r e. named_there rows of.Component (keys_of p.component.entries) named.component 6 r.component (e)) (table_none known.Registry);
    remove_file_component = each_named (layout_of known.RemoveFile).name (remove_file_dangling rows) _ p.remove_file.entries (λ r e. named_there rows of.Component (keys_of p.component.entries) named.component 2 r.component (e)) (table_none known.RemoveFile);
    remove_registry_component = each_named (layout_of known.RemoveRegistry).name (remove_registry_dangling rows) _ p.remove_registry.entries (λ r e. named_there rows of.Component (keys_of p.component.entries) named.component 5 r.component (e)) (table_none known.RemoveRegistry);
    shortcut_directory = each_named (layout_of known.Shortcut).name (shortcut_dangling rows) _ p.shortcut.entries (λ r e. named_there rows of.Directory (keys_of p.directory.entries) named.directory 2 r.directory ((or_none (names rows of.Directory 2 r.directory) _ e).0)) (table_none known.Shortcut);
    shortcut_component = each_named (layout_of known.Shortcut).name (shortcut_dangling rows) _ p.shortcut.entries (λ r e. named_there rows of.Component (keys_of p.component.entries) named.component 4 r.component ((or_none (names rows of.Directory 2 r.directory) _ e).1)) (table_none known.Shortcut);
    component_key_path = each_named (layout_of known.Component).name (component_dangling rows) _ p.component.entries (λ r e. key_path r r.key_path (or_none (names rows of.Directory 3 r.directory) _ e).1) (table_none known.Component);
    custom_action_source = each_named (layout_of known.CustomAction).name (custom_action_dangling rows) (λ r. sets_directory r.kind ≡ true → (dir : Name) × (r.source ≡ Some dir) × IsKeyOf p.directory.entries dir) p.custom_action.entries (λ r e sets.
        must_be_there rows of.Directory (keys_of p.directory.entries) named.directory 3 r.source (sym (ap (λ b. cond b (must_name rows of.Directory 3 r.source) None) sets) ∙ e)) (table_none known.CustomAction);
  }

  -- the key that a column names is found
  found : (target : Target) (column : ℕ) (o : Option Name) → may_name rows target column o ≡ None → IfSome o (λ q. is_key_in (keys_in rows target) q ≡ true)
  found target column None e = tt
  found target column (Some q) e = by (is_key_in (keys_in rows target) q) e
    where
      by : (b : Bool) → cond b None (Some column) ≡ None → b ≡ true
      by true e = refl
      by false e = cc

  not_of_root : (b : Bool) (o : Option Name) (P : Name → Type 0) → IfSome o P → IfSome (cond b None o) P
  not_of_root true o P h = tt
  not_of_root false o P h = h

  chains : (chain_fault directory.name (λ (r : DirectoryRow). r.directory) parent_of_directory rows.directory ≡ None)
      × (chain_fault feature.name (λ (r : FeatureRow). r.feature) (λ r. r.feature_parent) rows.feature ≡ None)
      × (chain_fault file.name (λ (r : FileRow). r.file) (λ r. companion_of r.version) rows.file ≡ None)
  chains =
      let one = or_none (chain_fault directory.name (λ (r : DirectoryRow). r.directory) parent_of_directory rows.directory) _ right.chains in
      let two = or_none (chain_fault feature.name (λ (r : FeatureRow). r.feature) (λ r. r.feature_parent) rows.feature) _ one.1 in
      (one.0, two.0, two.1)

  companion_known : (o : Option Name) → IfSome o (IsKeyOf p.file.entries) → IfSome o (λ q. is_key_in (map (λ (r : FileRow). r.file) (behind p.file.entries)) q ≡ true)
  companion_known None h = tt
  companion_known (Some q) h = subst (λ (ks : List Name). is_key_in ks q ≡ true) named.file (key_in (keys_of p.file.entries) q h)

  pub parents_end : ParentsEnd p
  unfolding rows_in
  parents_end = record {
    directory = chains_end directory.name (λ (r : DirectoryRow). r.directory) parent_of_directory p.directory.entries keys.directory
        (λ n d lt. each_named (layout_of known.Directory).name (directory_dangling rows) (λ r. IfSome (parent_of_directory r) (λ q. is_key_in (map (λ (s : DirectoryRow). s.directory) (behind p.directory.entries)) q ≡ true)) p.directory.entries
        (λ r e. not_of_root (is_root_below r.directory r.directory_parent) r.directory_parent _ (found of.Directory 2 r.directory_parent e)) (table_none known.Directory) n d lt) chains.0;
    feature = chains_end feature.name (λ (r : FeatureRow). r.feature) (λ r. r.feature_parent) p.feature.entries keys.feature
        (λ n d lt. each_named (layout_of known.Feature).name (feature_dangling rows) (λ r. IfSome r.feature_parent (λ q. is_key_in (map (λ (s : FeatureRow). s.feature) (behind p.feature.entries)) q ≡ true)) p.feature.entries
        (λ r e. found of.Feature 2 r.feature_parent e) (table_none known.Feature) n d lt) chains.1;
    file = chains_end file.name (λ (r : FileRow). r.file) (λ r. companion_of r.version) p.file.entries keys.file (λ n d lt. companion_known (companion_of (get_or p.file.entries n d).1.version) (values.file_version n d lt)) chains.2;
  }

  -- a property that is a key has a row, whose value passes
  property_there : (name : Name) (P : List ℕ → Type 0) → missing_property (behind p.property.entries) name ≡ None → ((value : List ℕ) → is_value_of name value ≡ true → P value) → HasProperty p name P
  property_there name P none h =
      let there = found_first (λ (r : PropertyRow). r.property) (behind p.property.entries) name (not_missing (is_key_in (map (λ (r : PropertyRow). r.property) (behind p.property.entries)) name) name none) in
      entry there.0 (let lt = there.2 in let long = behind_long p.property.entries in omega (arith, lt, long)) there.3
    where
      any : PropertyRow
      any = record { property = []; value = [] }

      entry : (j : ℕ) → j < length p.property.entries → ((d : PropertyRow) → (get_or (behind p.property.entries) j d).property ≡ name) → HasProperty p name P
      entry j lt is =
          let e = get_or p.property.entries j (name, any) in
          let own : e.1.property ≡ name = ap (λ (r : PropertyRow). r.property) (sym (behind_at p.property.entries j (name, any) lt)) ∙ is any in
          let key : e.0 ≡ name = keys.property j (name, any) lt ∙ own in (
            e.1,
            (j, lt, get_any p.property.entries j (name, e.1) (name, any) lt ∙ ap (λ (k : Name). (k, e.1)) key),
            h e.1.value (ap (λ (q : Name). is_value_of q e.1.value) (sym own) ∙ values.property_value j (name, any) lt),
          )

  pub properties_stand : PropertiesStand p
  unfolding rows_in
  properties_stand =
      let there = all_there (behind p.property.entries) right.required in
      record {
        manufacturer = property_there (codes "Manufacturer") (λ value. Unit {0}) there.0 (λ value e. tt);
        product_code = property_there (codes "ProductCode") (λ value. is_product_code value ≡ true) there.1 (λ value e. e);
        product_language = property_there (codes "ProductLanguage") (λ value. is_language value ≡ true) there.2 (λ value e. e);
        product_name = property_there (codes "ProductName") (λ value. Unit {0}) there.3 (λ value e. tt);
        product_version = property_there (codes "ProductVersion") (λ value. is_some (version_of value) ≡ true) there.4 (λ value e. e);
      }

  -- why a file isn't compressed
  plain : (n : ℕ) (d : FileRow) → n < length (behind p.file.entries) → (has_attributes (get_or (behind p.file.entries) n d) 16384 ≡ false) × ((is_source_compressed (behind p.summary_information.entries) && not (has_attributes (get_or (behind p.file.entries) n d) 8192)) ≡ false)
  unfolding rows_in
  plain n d lt = neither (has_attributes (get_or (behind p.file.entries) n d) 16384) _ (no_file (is_source_compressed (behind p.summary_information.entries)) (behind p.file.entries) right.compressed n d lt)

  pub source_stands : SourceStands p
  source_stands = record {
    short_names = lawful.is.short_names ∙ ap has_short_names (sym (summary_is p lawful.content lawful.is.rows));
    not_compressed = each_behind (λ r. has_attributes r 16384 ≡ false) p.file.entries (λ n d lt. (plain n d lt).0);
    as_files = λ source. each_behind (λ r. has_attributes r 8192 ≡ true) p.file.entries (λ n d lt.
        without (is_source_compressed (behind p.summary_information.entries)) (has_attributes (get_or (behind p.file.entries) n d) 8192) (plain n d lt).1 source);
  }
