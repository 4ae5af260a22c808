-- The standard actions that are phases, each with what its rows touch. (Standard Actions Reference.)
use Rattle.std.specs.Prelude.{List, [], ◌∷◌, codes, Option}
use Rattle.mi_text.specs.Maps.{Name}
use Rattle.mi_model.specs.World.{Effect}
use Rattle.mi_model.specs.States.{named}
use Rattle.mi_model.specs.ProcessComponents.{process_components}
use Rattle.mi_model.specs.RemoveRegistryValues.{remove_registry_values}
use Rattle.mi_model.specs.Shortcuts.{remove_shortcuts, create_shortcuts}
use Rattle.mi_model.specs.RemoveEnvironmentStrings.{remove_environment_strings}
use Rattle.mi_model.specs.DuplicateFiles.{remove_duplicate_files, duplicate_files}
use Rattle.mi_model.specs.RemoveFiles.{remove_files}
use Rattle.mi_model.specs.Folders.{remove_folders, create_folders}
use Rattle.mi_model.specs.InstallFiles.{install_files}
use Rattle.mi_model.specs.WriteRegistryValues.{write_registry_values}
use Rattle.mi_model.specs.WriteEnvironmentStrings.{write_environment_strings}
use Rattle.mi_model.specs.PublishProduct.{publish_product}

unfoldable pub phases : List (Name × Effect)
phases =
    (codes "ProcessComponents", process_components)
    ∷ (codes "RemoveRegistryValues", remove_registry_values)
    ∷ (codes "RemoveShortcuts", remove_shortcuts)
    ∷ (codes "RemoveEnvironmentStrings", remove_environment_strings)
    ∷ (codes "RemoveDuplicateFiles", remove_duplicate_files)
    ∷ (codes "RemoveFiles", remove_files)
    ∷ (codes "RemoveFolders", remove_folders)
    ∷ (codes "CreateFolders", create_folders)
    ∷ (codes "InstallFiles", install_files)
    ∷ (codes "DuplicateFiles", duplicate_files)
    ∷ (codes "CreateShortcuts", create_shortcuts)
    ∷ (codes "WriteRegistryValues", write_registry_values)
    ∷ (codes "WriteEnvironmentStrings", write_environment_strings)
    ∷ (codes "PublishProduct", publish_product)
    ∷ []

-- the effect of a phase
unfoldable pub effect_of : Name → Option Effect
effect_of action = named action phases
