-- The known tables by short names.
use Rattle.mi_schema.specs.declared.known.Known.TheVariants as known
use Rattle.mi_schema.specs.Tables.{layout_of}
use Rattle.mi_rows.specs.Columns.{Table}

abbrev pub component : Table
component = layout_of known.Component

abbrev pub condition : Table
condition = layout_of known.Condition

abbrev pub create_folder : Table
create_folder = layout_of known.CreateFolder

abbrev pub custom_action : Table
custom_action = layout_of known.CustomAction

abbrev pub directory : Table
directory = layout_of known.Directory

abbrev pub duplicate_file : Table
duplicate_file = layout_of known.DuplicateFile

abbrev pub environment : Table
environment = layout_of known.Environment

abbrev pub feature : Table
feature = layout_of known.Feature

abbrev pub feature_components : Table
feature_components = layout_of known.FeatureComponents

abbrev pub file : Table
file = layout_of known.File

abbrev pub install_execute_sequence : Table
install_execute_sequence = layout_of known.InstallExecuteSequence

abbrev pub launch_condition : Table
launch_condition = layout_of known.LaunchCondition

abbrev pub msi_file_hash : Table
msi_file_hash = layout_of known.MsiFileHash

abbrev pub property : Table
property = layout_of known.Property

abbrev pub registry : Table
registry = layout_of known.Registry

abbrev pub remove_file : Table
remove_file = layout_of known.RemoveFile

abbrev pub remove_registry : Table
remove_registry = layout_of known.RemoveRegistry

abbrev pub shortcut : Table
shortcut = layout_of known.Shortcut

abbrev pub summary_information : Table
summary_information = layout_of known.SummaryInformation

abbrev pub upgrade : Table
upgrade = layout_of known.Upgrade
