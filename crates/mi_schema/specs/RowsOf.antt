-- The typed rows that the tables of a folder hold, those of a package of the program, and which package holds exactly these:
-- the rows of every known table in file order, each under its key. (Database Tables.)
use Rattle.std.specs.Prelude.{◌≡◌, List, map}
use Rattle.std.specs.Map.{keys_of}
use Rattle.mi_schema.specs.declared.package.Package.{Package}
use Rattle.mi_schema.specs.declared.known.Known.{Known}
use Rattle.mi_schema.specs.declared.known.Known.TheVariants as known
use Rattle.mi_schema.specs.Tables.{layout_of}
use Rattle.mi_text.specs.Maps.{Name}
use Rattle.mi_source.specs.Paths.{Files}
use Rattle.mi_rows.specs.Rows.{Content, content_of, rows_at}
use Rattle.mi_schema.specs.Source.{has_short_names}
use Rattle.mi_schema.specs.TypedRows.{property_row, directory_row, component_row, feature_row, feature_components_row, condition_row, file_row, msi_file_hash_row, remove_file_row, create_folder_row, duplicate_file_row, registry_row, remove_registry_row, environment_row, shortcut_row, launch_condition_row, custom_action_row, install_execute_sequence_row, upgrade_row, summary_information_row}
use Rattle.mi_rows.specs.Typed.{text_key, texts_key, text_number_key, upgrade_key, number_key, keyed}
use Rattle.mi_schema.specs.TableRows.{Rows}

-- the rows of all known tables
unfoldable pub rows_of_content : Content → Rows
rows_of_content content = record {
  short_names = has_short_names (map summary_information_row (rows_at content (layout_of known.SummaryInformation)));
  component = map component_row (rows_at content (layout_of known.Component));
  condition = map condition_row (rows_at content (layout_of known.Condition));
  create_folder = map create_folder_row (rows_at content (layout_of known.CreateFolder));
  custom_action = map custom_action_row (rows_at content (layout_of known.CustomAction));
  directory = map directory_row (rows_at content (layout_of known.Directory));
  duplicate_file = map duplicate_file_row (rows_at content (layout_of known.DuplicateFile));
  environment = map environment_row (rows_at content (layout_of known.Environment));
  feature = map feature_row (rows_at content (layout_of known.Feature));
  feature_components = map feature_components_row (rows_at content (layout_of known.FeatureComponents));
  file = map file_row (rows_at content (layout_of known.File));
  install_execute_sequence = map install_execute_sequence_row (rows_at content (layout_of known.InstallExecuteSequence));
  launch_condition = map (λ row. (text_key row, launch_condition_row row)) (rows_at content (layout_of known.LaunchCondition));
  msi_file_hash = map msi_file_hash_row (rows_at content (layout_of known.MsiFileHash));
  property = map property_row (rows_at content (layout_of known.Property));
  registry = map registry_row (rows_at content (layout_of known.Registry));
  remove_file = map remove_file_row (rows_at content (layout_of known.RemoveFile));
  remove_registry = map remove_registry_row (rows_at content (layout_of known.RemoveRegistry));
  shortcut = map shortcut_row (rows_at content (layout_of known.Shortcut));
  summary_information = map summary_information_row (rows_at content (layout_of known.SummaryInformation));
  upgrade = map upgrade_row (rows_at content (layout_of known.Upgrade));
}

-- the rows of the package in a folder
unfoldable pub folder_rows : Files → Name → Rows
folder_rows files folder = rows_of_content (content_of files folder)

-- the values behind the keys
abbrev pub behind : {K R : Type 0} → List (K × R) → List R
behind entries = map (λ e. e.1) entries

-- the rows that a package of the program holds
unfoldable pub rows_in : Package → Rows
rows_in p = record {
  short_names = p.short_names;
  component = behind p.component.entries;
  condition = behind p.condition.entries;
  create_folder = behind p.create_folder.entries;
  custom_action = behind p.custom_action.entries;
  directory = behind p.directory.entries;
  duplicate_file = behind p.duplicate_file.entries;
  environment = behind p.environment.entries;
  feature = behind p.feature.entries;
  feature_components = behind p.feature_components.entries;
  file = behind p.file.entries;
  install_execute_sequence = behind p.install_execute_sequence.entries;
  launch_condition = p.launch_condition.entries;
  msi_file_hash = behind p.msi_file_hash.entries;
  property = behind p.property.entries;
  registry = behind p.registry.entries;
  remove_file = behind p.remove_file.entries;
  remove_registry = behind p.remove_registry.entries;
  shortcut = behind p.shortcut.entries;
  summary_information = behind p.summary_information.entries;
  upgrade = behind p.upgrade.entries;
}

-- rows stand under their own keys, in the tables that other tables name and in Property
pub record AreNamed (p : Package) : Type 0 where
  pub component : keys_of p.component.entries ≡ map (λ r. r.component) (behind p.component.entries)
  pub directory : keys_of p.directory.entries ≡ map (λ r. r.directory) (behind p.directory.entries)
  pub feature : keys_of p.feature.entries ≡ map (λ r. r.feature) (behind p.feature.entries)
  pub file : keys_of p.file.entries ≡ map (λ r. r.file) (behind p.file.entries)
  pub property : keys_of p.property.entries ≡ map (λ r. r.property) (behind p.property.entries)
  pub registry : keys_of p.registry.entries ≡ map (λ r. r.registry) (behind p.registry.entries)

-- ---- the package of a folder

-- the package holds exactly these rows of a table
abbrev pub Holds : Package → Content → Known → Type 0
Holds p content known.Component = p.component.entries ≡ keyed text_key component_row (rows_at content (layout_of known.Component))
Holds p content known.Condition = p.condition.entries ≡ keyed text_number_key condition_row (rows_at content (layout_of known.Condition))
Holds p content known.CreateFolder = p.create_folder.entries ≡ keyed texts_key create_folder_row (rows_at content (layout_of known.CreateFolder))
Holds p content known.CustomAction = p.custom_action.entries ≡ keyed text_key custom_action_row (rows_at content (layout_of known.CustomAction))
Holds p content known.Directory = p.directory.entries ≡ keyed text_key directory_row (rows_at content (layout_of known.Directory))
Holds p content known.DuplicateFile = p.duplicate_file.entries ≡ keyed text_key duplicate_file_row (rows_at content (layout_of known.DuplicateFile))
Holds p content known.Environment = p.environment.entries ≡ keyed text_key environment_row (rows_at content (layout_of known.Environment))
Holds p content known.Feature = p.feature.entries ≡ keyed text_key feature_row (rows_at content (layout_of known.Feature))
Holds p content known.FeatureComponents = p.feature_components.entries ≡ keyed texts_key feature_components_row (rows_at content (layout_of known.FeatureComponents))
Holds p content known.File = p.file.entries ≡ keyed text_key file_row (rows_at content (layout_of known.File))
Holds p content known.InstallExecuteSequence = p.install_execute_sequence.entries ≡ keyed text_key install_execute_sequence_row (rows_at content (layout_of known.InstallExecuteSequence))
Holds p content known.LaunchCondition = p.launch_condition.entries ≡ keyed text_key launch_condition_row (rows_at content (layout_of known.LaunchCondition))
Holds p content known.MsiFileHash = p.msi_file_hash.entries ≡ keyed text_key msi_file_hash_row (rows_at content (layout_of known.MsiFileHash))
Holds p content known.Property = p.property.entries ≡ keyed text_key property_row (rows_at content (layout_of known.Property))
Holds p content known.Registry = p.registry.entries ≡ keyed text_key registry_row (rows_at content (layout_of known.Registry))
Holds p content known.RemoveFile = p.remove_file.entries ≡ keyed text_key remove_file_row (rows_at content (layout_of known.RemoveFile))
Holds p content known.RemoveRegistry = p.remove_registry.entries ≡ keyed text_key remove_registry_row (rows_at content (layout_of known.RemoveRegistry))
Holds p content known.Shortcut = p.shortcut.entries ≡ keyed text_key shortcut_row (rows_at content (layout_of known.Shortcut))
Holds p content known.SummaryInformation = p.summary_information.entries ≡ keyed number_key summary_information_row (rows_at content (layout_of known.SummaryInformation))
Holds p content known.Upgrade = p.upgrade.entries ≡ keyed upgrade_key upgrade_row (rows_at content (layout_of known.Upgrade))

-- of all tables
abbrev pub HoldsAll : Package → Content → Type 0
HoldsAll p content = (k : Known) → Holds p content k

-- and says which names its source has
pub record IsPackage (p : Package) (content : Content) : Type 0 where
  pub short_names : p.short_names ≡ has_short_names (map summary_information_row (rows_at content (layout_of known.SummaryInformation)))
  pub rows : HoldsAll p content
