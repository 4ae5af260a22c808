-- A package of the program holds the rows of its folder.
use Rattle.std.proofs.Common.{◌≡◌, List, [], ◌∷◌, map, refl, ap, ◌∙◌}
use Rattle.mi_schema.specs.declared.package.Package.{Package}
use Rattle.mi_schema.specs.declared.known.Known.TheVariants as known
use Rattle.mi_schema.proofs.KnownTables as table
use Rattle.mi_rows.specs.Values.{Row}
use Rattle.mi_text.specs.Maps.{Name}
use Rattle.mi_source.specs.Paths.{Files}
use Rattle.mi_schema.specs.Checks.{Content, content_of, rows_at}
use Rattle.mi_schema.specs.RowsOf.{IsPackage, HoldsAll, rows_of_content, folder_rows, rows_in, behind}
use Rattle.mi_rows.specs.Typed.{keyed, text_key, text_number_key, texts_key, number_key, upgrade_key}
use Rattle.mi_schema.specs.TypedRows.{component_row, condition_row, create_folder_row, custom_action_row, directory_row, duplicate_file_row, environment_row, feature_row, feature_components_row, file_row, install_execute_sequence_row, msi_file_hash_row, property_row, registry_row, remove_file_row, remove_registry_row, shortcut_row, summary_information_row, upgrade_row}

pub behind-keyed : {K R : Type 0} → (key : Row → K) (row : Row → R) (rows : List Row) → behind (keyed key row rows) ≡ map row rows
behind-keyed key row [] = refl
behind-keyed key row (r ∷ rows) = ap (λ (rs : List _). row r ∷ rs) (behind-keyed key row rows)

-- the rows behind the keys
pub summary_is : (p : Package) (content : Content) → HoldsAll p content → behind p.summary_information.entries ≡ map summary_information_row (rows_at content table.summary_information)
summary_is p content holds = ap behind (holds known.SummaryInformation) ∙ behind-keyed number_key summary_information_row (rows_at content table.summary_information)

pub rows_in-IsPackage : (p : Package) (content : Content) → IsPackage p content → rows_in p ≡ rows_of_content content
unfolding rows_in rows_of_content
rows_in-IsPackage p content is = λ i. record {
  short_names = is.short_names i;
  launch_condition = is.rows known.LaunchCondition i;
  component = (ap behind (is.rows known.Component) ∙ behind-keyed text_key component_row (rows_at content table.component)) i;
  condition = (ap behind (is.rows known.Condition) ∙ behind-keyed text_number_key condition_row (rows_at content table.condition)) i;
  create_folder = (ap behind (is.rows known.CreateFolder) ∙ behind-keyed texts_key create_folder_row (rows_at content table.create_folder)) i;
  custom_action = (ap behind (is.rows known.CustomAction) ∙ behind-keyed text_key custom_action_row (rows_at content table.custom_action)) i;
  directory = (ap behind (is.rows known.Directory) ∙ behind-keyed text_key directory_row (rows_at content table.directory)) i;
  duplicate_file = (ap behind (is.rows known.DuplicateFile) ∙ behind-keyed text_key duplicate_file_row (rows_at content table.duplicate_file)) i;
  environment = (ap behind (is.rows known.Environment) ∙ behind-keyed text_key environment_row (rows_at content table.environment)) i;
  feature = (ap behind (is.rows known.Feature) ∙ behind-keyed text_key feature_row (rows_at content table.feature)) i;
  feature_components = (ap behind (is.rows known.FeatureComponents) ∙ behind-keyed texts_key feature_components_row (rows_at content table.feature_components)) i;
  file = (ap behind (is.rows known.File) ∙ behind-keyed text_key file_row (rows_at content table.file)) i;
  install_execute_sequence = (ap behind (is.rows known.InstallExecuteSequence) ∙ behind-keyed text_key install_execute_sequence_row (rows_at content table.install_execute_sequence)) i;
  msi_file_hash = (ap behind (is.rows known.MsiFileHash) ∙ behind-keyed text_key msi_file_hash_row (rows_at content table.msi_file_hash)) i;
  property = (ap behind (is.rows known.Property) ∙ behind-keyed text_key property_row (rows_at content table.property)) i;
  registry = (ap behind (is.rows known.Registry) ∙ behind-keyed text_key registry_row (rows_at content table.registry)) i;
  remove_file = (ap behind (is.rows known.RemoveFile) ∙ behind-keyed text_key remove_file_row (rows_at content table.remove_file)) i;
  remove_registry = (ap behind (is.rows known.RemoveRegistry) ∙ behind-keyed text_key remove_registry_row (rows_at content table.remove_registry)) i;
  shortcut = (ap behind (is.rows known.Shortcut) ∙ behind-keyed text_key shortcut_row (rows_at content table.shortcut)) i;
  summary_information = (ap behind (is.rows known.SummaryInformation) ∙ behind-keyed number_key summary_information_row (rows_at content table.summary_information)) i;
  upgrade = (ap behind (is.rows known.Upgrade) ∙ behind-keyed upgrade_key upgrade_row (rows_at content table.upgrade)) i;
}

pub rows_in-folder : (p : Package) (files : Files) (folder : Name) → IsPackage p (content_of files folder) → rows_in p ≡ folder_rows files folder
unfolding folder_rows
rows_in-folder p files folder is = rows_in-IsPackage p (content_of files folder) is
