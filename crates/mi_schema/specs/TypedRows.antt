-- The rows of each table by the types of their columns. (Database Tables.)
use Rattle.mi_rows.specs.Typed.{some_number_at, some_code_in, some_condition_in, condition_in}
use Rattle.mi_rows.specs.Values.{Row, cell_at, text_at, some_text_at, number_at}
pub use Rattle.mi_schema.specs.declared.typed_rows.ComponentRow.{ComponentRow}
pub use Rattle.mi_schema.specs.declared.typed_rows.ConditionRow.{ConditionRow}
pub use Rattle.mi_schema.specs.declared.typed_rows.CreateFolderRow.{CreateFolderRow}
pub use Rattle.mi_schema.specs.declared.typed_rows.CustomActionRow.{CustomActionRow}
pub use Rattle.mi_schema.specs.declared.typed_rows.DirectoryRow.{DirectoryRow}
pub use Rattle.mi_schema.specs.declared.typed_rows.DuplicateFileRow.{DuplicateFileRow}
pub use Rattle.mi_schema.specs.declared.typed_rows.EnvironmentRow.{EnvironmentRow}
pub use Rattle.mi_schema.specs.declared.typed_rows.FeatureRow.{FeatureRow}
pub use Rattle.mi_schema.specs.declared.typed_rows.FeatureComponentsRow.{FeatureComponentsRow}
pub use Rattle.mi_schema.specs.declared.typed_rows.FileRow.{FileRow}
pub use Rattle.mi_schema.specs.declared.typed_rows.InstallExecuteSequenceRow.{InstallExecuteSequenceRow}
pub use Rattle.mi_schema.specs.declared.typed_rows.LaunchConditionRow.{LaunchConditionRow}
pub use Rattle.mi_schema.specs.declared.typed_rows.MsiFileHashRow.{MsiFileHashRow}
pub use Rattle.mi_schema.specs.declared.typed_rows.PropertyRow.{PropertyRow}
pub use Rattle.mi_schema.specs.declared.typed_rows.RegistryRow.{RegistryRow}
pub use Rattle.mi_schema.specs.declared.typed_rows.RemoveFileRow.{RemoveFileRow}
pub use Rattle.mi_schema.specs.declared.typed_rows.RemoveRegistryRow.{RemoveRegistryRow}
pub use Rattle.mi_schema.specs.declared.typed_rows.ShortcutRow.{ShortcutRow}
pub use Rattle.mi_schema.specs.declared.typed_rows.SummaryInformationRow.{SummaryInformationRow}
pub use Rattle.mi_schema.specs.declared.typed_rows.UpgradeRow.{UpgradeRow}

abbrev pub property_row : Row → PropertyRow
property_row row = record { property = text_at row 0; value = text_at row 1 }

abbrev pub directory_row : Row → DirectoryRow
directory_row row = record { directory = text_at row 0; directory_parent = some_text_at row 1; default_dir = text_at row 2 }

abbrev pub component_row : Row → ComponentRow
component_row row = record { component = text_at row 0; component_id = some_code_in (cell_at row 1); directory = text_at row 2; attributes = number_at row 3; condition = some_condition_in (cell_at row 4); key_path = some_text_at row 5 }

abbrev pub feature_row : Row → FeatureRow
feature_row row = record { feature = text_at row 0; feature_parent = some_text_at row 1; title = some_text_at row 2; description = some_text_at row 3; display = some_number_at row 4; level = number_at row 5; directory = some_text_at row 6; attributes = number_at row 7 }

abbrev pub feature_components_row : Row → FeatureComponentsRow
feature_components_row row = record { feature = text_at row 0; component = text_at row 1 }

abbrev pub condition_row : Row → ConditionRow
condition_row row = record { feature = text_at row 0; level = number_at row 1; condition = some_condition_in (cell_at row 2) }

abbrev pub file_row : Row → FileRow
file_row row = record { file = text_at row 0; component = text_at row 1; file_name = text_at row 2; file_size = number_at row 3; version = some_text_at row 4; language = some_text_at row 5; attributes = some_number_at row 6; sequence = number_at row 7 }

abbrev pub msi_file_hash_row : Row → MsiFileHashRow
msi_file_hash_row row = record { file = text_at row 0; options = number_at row 1; hash_part1 = number_at row 2; hash_part2 = number_at row 3; hash_part3 = number_at row 4; hash_part4 = number_at row 5 }

abbrev pub remove_file_row : Row → RemoveFileRow
remove_file_row row = record { file_key = text_at row 0; component = text_at row 1; file_name = some_text_at row 2; dir_property = text_at row 3; install_mode = number_at row 4 }

abbrev pub create_folder_row : Row → CreateFolderRow
create_folder_row row = record { directory = text_at row 0; component = text_at row 1 }

abbrev pub duplicate_file_row : Row → DuplicateFileRow
duplicate_file_row row = record { file_key = text_at row 0; component = text_at row 1; file = text_at row 2; dest_name = some_text_at row 3; dest_folder = some_text_at row 4 }

abbrev pub registry_row : Row → RegistryRow
registry_row row = record { registry = text_at row 0; root = number_at row 1; key = text_at row 2; name = some_text_at row 3; value = some_text_at row 4; component = text_at row 5 }

abbrev pub remove_registry_row : Row → RemoveRegistryRow
remove_registry_row row = record { remove_registry = text_at row 0; root = number_at row 1; key = text_at row 2; name = some_text_at row 3; component = text_at row 4 }

abbrev pub environment_row : Row → EnvironmentRow
environment_row row = record { environment = text_at row 0; name = text_at row 1; value = some_text_at row 2; component = text_at row 3 }

abbrev pub shortcut_row : Row → ShortcutRow
shortcut_row row = record { shortcut = text_at row 0; directory = text_at row 1; name = text_at row 2; component = text_at row 3; target = text_at row 4; arguments = some_text_at row 5; description = some_text_at row 6; hotkey = some_number_at row 7; icon = some_text_at row 8; icon_index = some_number_at row 9; show_cmd = some_number_at row 10; wk_dir = some_text_at row 11 }

abbrev pub launch_condition_row : Row → LaunchConditionRow
launch_condition_row row = record { condition = condition_in (cell_at row 0); description = text_at row 1 }

abbrev pub custom_action_row : Row → CustomActionRow
custom_action_row row = record { action = text_at row 0; kind = number_at row 1; source = some_text_at row 2; target = some_text_at row 3 }

abbrev pub install_execute_sequence_row : Row → InstallExecuteSequenceRow
install_execute_sequence_row row = record { action = text_at row 0; condition = some_condition_in (cell_at row 1); sequence = some_number_at row 2 }

abbrev pub upgrade_row : Row → UpgradeRow
upgrade_row row = record { upgrade_code = text_at row 0; version_min = some_text_at row 1; version_max = some_text_at row 2; language = some_text_at row 3; attributes = number_at row 4; remove = some_text_at row 5; action_property = text_at row 6 }

abbrev pub summary_information_row : Row → SummaryInformationRow
summary_information_row row = record { property_id = number_at row 0; value = some_text_at row 1 }
