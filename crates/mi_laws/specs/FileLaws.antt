-- Which files go, and by which rows. (RemoveFiles Action; File Table; RemoveFile Table; RemoveDuplicateFiles Action; DuplicateFile Table.)
use Rattle.std.specs.Prelude.{◌≡◌, ◌&&◌, not, true, List, [], ◌∷◌}
use Rattle.std.specs.List.{AllByRecursion}
use Rattle.std.specs.FinMap.{get}
use Rattle.mi_base.specs.Machine.{Machine}
use Rattle.mi_base.specs.Names.{file_name}
use Rattle.mi_model.specs.Texts.{Text}
use Rattle.mi_model.specs.World.{World, Effect}
use Rattle.mi_model.specs.FilePaths.{is_guarded_file}
use Rattle.mi_model.specs.ProcessComponents.{process_components}
use Rattle.mi_model.specs.WriteRegistryValues.{write_registry_values}
use Rattle.mi_model.specs.RemoveRegistryValues.{remove_registry_values}
use Rattle.mi_model.specs.Shortcuts.{remove_shortcuts, create_shortcuts}
use Rattle.mi_model.specs.RemoveEnvironmentStrings.{remove_environment_strings}
use Rattle.mi_model.specs.DuplicateFiles.{remove_duplicate_files, duplicate_files}
use Rattle.mi_model.specs.RemoveFiles.{remove_files}
use Rattle.mi_model.specs.Folders.{remove_folders, create_folders}
use Rattle.mi_model.specs.InstallFiles.{install_files}
use Rattle.mi_model.specs.WriteEnvironmentStrings.{write_environment_strings}
use Rattle.mi_model.specs.PublishProduct.{publish_product}
use Rattle.mi_model_laws.specs.PhaseLaws.{IsAfter}
use Rattle.mi_model_laws.specs.FileLaws.{is_removed}
use Rattle.mi_model_laws.specs.CopyLaws.{is_copy_of_leaving}
use Rattle.mi_laws.specs.ValueLaws.{Goes}

-- files stand as they did
abbrev pub KeepsFiles : Effect → Type 0
KeepsFiles effect = (w : World) (m : Machine) → IsAfter effect w m → (path : Text) → get m (file_name path) ≡ get w.machine (file_name path)

-- the phases that neither write files nor take them away
abbrev pub phases_but_files : List Effect
phases_but_files =
    process_components
    ∷ remove_registry_values
    ∷ remove_shortcuts
    ∷ remove_environment_strings
    ∷ remove_folders
    ∷ create_folders
    ∷ create_shortcuts
    ∷ write_registry_values
    ∷ write_environment_strings
    ∷ publish_product
    ∷ []

pub record FilesGoByRows : Type 0 where
  -- a file that RemoveFiles takes is named by a row of File of a leaving component and isn't guarded, or by a row of RemoveFile in force
  pub removed : (w : World) (path : Text) → Goes remove_files w (file_name path) → is_removed w (file_name path) ≡ true
  -- one that RemoveDuplicateFiles takes is the copy of a row of a leaving component, and isn't guarded
  pub copies : (w : World) (path : Text) → Goes remove_duplicate_files w (file_name path) → (is_copy_of_leaving w (file_name path) && not (is_guarded_file w (file_name path))) ≡ true
  -- InstallFiles and DuplicateFiles take none
  pub installed : (w : World) (path : Text) → ¬ Goes install_files w (file_name path)
  pub copied : (w : World) (path : Text) → ¬ Goes duplicate_files w (file_name path)
  pub others : AllByRecursion KeepsFiles phases_but_files
