-- Which names each phase changes, by their first letters; all others are as before. (This project's own names.)
use Rattle.std.specs.Prelude.{List, [], ◌∷◌, codes}
use Rattle.mi_model.specs.ProcessComponents.{process_components}
use Rattle.mi_model.specs.RemoveRegistryValues.{remove_registry_values}
use Rattle.mi_model.specs.Shortcuts.{remove_shortcuts, create_shortcuts}
use Rattle.mi_model.specs.RemoveEnvironmentStrings.{remove_environment_strings}
use Rattle.mi_model.specs.DuplicateFiles.{remove_duplicate_files, duplicate_files}
use Rattle.mi_model.specs.RemoveFiles.{remove_files}
use Rattle.mi_model.specs.Folders.{remove_folders, create_folders}
use Rattle.mi_model.specs.InstallFiles.{install_files}
use Rattle.mi_model.specs.WriteRegistryValues.{write_registry_values}
use Rattle.mi_model.specs.WriteEnvironmentStrings.{write_environment_strings}
use Rattle.mi_model.specs.PublishProduct.{publish_product}
use Rattle.mi_model.specs.Texts.{Text}
use Rattle.mi_model_laws.specs.PhaseLaws.{ChangesOnly}

abbrev pub files_and_folders : List Text
files_and_folders = codes "f/" ∷ codes "d/" ∷ []

abbrev pub shortcuts_and_folders : List Text
shortcuts_and_folders = codes "s/" ∷ codes "d/" ∷ []

-- the values under the root of the machine; pruning goes by the first letter of names
abbrev pub clients_and_counts : List Text
clients_and_counts = codes "c/" ∷ codes "v/2" ∷ codes "k" ∷ []

pub record PhasesChangeOnly : Type 0 where
  -- which counts and which keys, `others` of ProcessesComponents says
  pub clients_and_counts : ChangesOnly clients_and_counts process_components
  pub product : ChangesOnly (codes "p/" ∷ []) publish_product
  pub written_values : ChangesOnly (codes "v/" ∷ codes "k/" ∷ []) write_registry_values
  pub removed_values : ChangesOnly (codes "v" ∷ codes "k" ∷ []) remove_registry_values
  pub created_shortcuts : ChangesOnly shortcuts_and_folders create_shortcuts
  pub removed_shortcuts : ChangesOnly shortcuts_and_folders remove_shortcuts
  pub written_variables : ChangesOnly (codes "n/" ∷ []) write_environment_strings
  pub removed_variables : ChangesOnly (codes "n/" ∷ []) remove_environment_strings
  pub installed_files : ChangesOnly files_and_folders install_files
  pub removed_files : ChangesOnly files_and_folders remove_files
  pub copied_files : ChangesOnly files_and_folders duplicate_files
  pub removed_copies : ChangesOnly files_and_folders remove_duplicate_files
  pub created_folders : ChangesOnly (codes "d/" ∷ []) create_folders
  pub removed_folders : ChangesOnly (codes "d/" ∷ []) remove_folders
