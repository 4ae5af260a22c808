-- The first row of a package that names a row that isn't there. (Database Tables)
use Rattle.std.specs.Prelude.{ℕ, ◌+◌, List, [], ◌∷◌, Option, None, option_map}
use Rattle.mi_text.specs.Maps.{Name}
use Rattle.mi_base.specs.declared.answers.Fault.{Fault}
use Rattle.mi_base.specs.declared.answers.Fault.TheVariants.{Reference}
use Rattle.mi_schema.specs.declared.known.Known.{Known}
use Rattle.mi_schema.specs.declared.known.Known.TheVariants as known
use Rattle.mi_schema.specs.Dangling.{component_dangling, condition_dangling, create_folder_dangling, custom_action_dangling, directory_dangling, duplicate_file_dangling, environment_dangling, feature_dangling, feature_components_dangling, file_dangling, msi_file_hash_dangling, registry_dangling, remove_file_dangling, remove_registry_dangling, shortcut_dangling}
use Rattle.mi_schema.specs.Tables.{Listed, Loaded, Refused, layout_of}
use Rattle.mi_rows.specs.Rows.{◌or_else◌}
use Rattle.mi_schema.specs.TableRows.{Rows}

-- ---- by row, then by table

abbrev pub first_dangling : {R : Type 0} → Name → (R → Option ℕ) → ℕ → List R → Option Fault
first_dangling table dangling number [] = None
first_dangling table dangling number (r ∷ rows) = option_map (Reference table number) (dangling r) or_else first_dangling table dangling (number + 1) rows

abbrev pub dangling_in : {R : Type 0} → Known → List R → (R → Option ℕ) → Option Fault
dangling_in k rows dangling = first_dangling (layout_of k).name dangling 1 rows

abbrev pub rows_dangling : Rows → Known → Option Fault
rows_dangling rows known.Component = dangling_in known.Component rows.component (component_dangling rows)
rows_dangling rows known.Condition = dangling_in known.Condition rows.condition (condition_dangling rows)
rows_dangling rows known.CreateFolder = dangling_in known.CreateFolder rows.create_folder (create_folder_dangling rows)
rows_dangling rows known.CustomAction = dangling_in known.CustomAction rows.custom_action (custom_action_dangling rows)
rows_dangling rows known.Directory = dangling_in known.Directory rows.directory (directory_dangling rows)
rows_dangling rows known.DuplicateFile = dangling_in known.DuplicateFile rows.duplicate_file (duplicate_file_dangling rows)
rows_dangling rows known.Environment = dangling_in known.Environment rows.environment (environment_dangling rows)
rows_dangling rows known.Feature = dangling_in known.Feature rows.feature (feature_dangling rows)
rows_dangling rows known.FeatureComponents = dangling_in known.FeatureComponents rows.feature_components (feature_components_dangling rows)
rows_dangling rows known.File = dangling_in known.File rows.file (file_dangling rows)
rows_dangling rows known.MsiFileHash = dangling_in known.MsiFileHash rows.msi_file_hash (msi_file_hash_dangling rows)
rows_dangling rows known.Registry = dangling_in known.Registry rows.registry (registry_dangling rows)
rows_dangling rows known.RemoveFile = dangling_in known.RemoveFile rows.remove_file (remove_file_dangling rows)
rows_dangling rows known.RemoveRegistry = dangling_in known.RemoveRegistry rows.remove_registry (remove_registry_dangling rows)
rows_dangling rows known.Shortcut = dangling_in known.Shortcut rows.shortcut (shortcut_dangling rows)
rows_dangling rows other = None

abbrev pub table_dangling : Rows → Listed → Option Fault
table_dangling rows (Loaded k) = rows_dangling rows k
table_dangling rows (Refused name) = None
