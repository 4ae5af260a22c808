-- What the program's steps and phases mean. (Standard Actions Reference; Custom Action Types.)
use Rattle.std.specs.Prelude.{[], codes}
use Rattle.mi_text.specs.Maps.{Name}
use Rattle.mi_seq.specs.declared.phase.Phase as phases
use Rattle.mi_seq.specs.declared.phase.Phase.TheVariants as phase
use Rattle.mi_seq.specs.declared.step.Step.{Step}
use Rattle.mi_seq.specs.declared.step.Step.TheVariants as step
use Rattle.mi_model.specs.World.{Effect}
use Rattle.mi_model.specs.Steps as model
use Rattle.mi_model.specs.ProcessComponents.{process_components}
use Rattle.mi_model.specs.RemoveRegistryValues.{remove_registry_values}
use Rattle.mi_model.specs.Shortcuts.{remove_shortcuts, create_shortcuts}
use Rattle.mi_model.specs.RemoveEnvironmentStrings.{remove_environment_strings}
use Rattle.mi_model.specs.DuplicateFiles.{remove_duplicate_files, duplicate_files}
use Rattle.mi_model.specs.RemoveFiles.{remove_files}
use Rattle.mi_model.specs.Folders.{remove_folders, create_folders}
use Rattle.mi_model.specs.InstallFiles.{install_files}
use Rattle.mi_model.specs.WriteRegistryValues.{write_registry_values}
use Rattle.mi_model.specs.WriteEnvironmentStrings.{write_environment_strings}
use Rattle.mi_model.specs.PublishProduct.{publish_product}

-- what the rows of a phase touch
abbrev pub effect : phases.Phase → Effect
effect phase.ProcessComponents = process_components
effect phase.RemoveRegistryValues = remove_registry_values
effect phase.RemoveShortcuts = remove_shortcuts
effect phase.RemoveEnvironmentStrings = remove_environment_strings
effect phase.RemoveDuplicateFiles = remove_duplicate_files
effect phase.RemoveFiles = remove_files
effect phase.RemoveFolders = remove_folders
effect phase.CreateFolders = create_folders
effect phase.InstallFiles = install_files
effect phase.DuplicateFiles = duplicate_files
effect phase.CreateShortcuts = create_shortcuts
effect phase.WriteRegistryValues = write_registry_values
effect phase.WriteEnvironmentStrings = write_environment_strings
effect phase.PublishProduct = publish_product

-- the name of its action
abbrev pub phase_action : phases.Phase → Name
phase_action phase.ProcessComponents = codes "ProcessComponents"
phase_action phase.RemoveRegistryValues = codes "RemoveRegistryValues"
phase_action phase.RemoveShortcuts = codes "RemoveShortcuts"
phase_action phase.RemoveEnvironmentStrings = codes "RemoveEnvironmentStrings"
phase_action phase.RemoveDuplicateFiles = codes "RemoveDuplicateFiles"
phase_action phase.RemoveFiles = codes "RemoveFiles"
phase_action phase.RemoveFolders = codes "RemoveFolders"
phase_action phase.CreateFolders = codes "CreateFolders"
phase_action phase.InstallFiles = codes "InstallFiles"
phase_action phase.DuplicateFiles = codes "DuplicateFiles"
phase_action phase.CreateShortcuts = codes "CreateShortcuts"
phase_action phase.WriteRegistryValues = codes "WriteRegistryValues"
phase_action phase.WriteEnvironmentStrings = codes "WriteEnvironmentStrings"
phase_action phase.PublishProduct = codes "PublishProduct"

-- what a step means; where no row is left there is none, and nothing is begun
abbrev pub meant : Step → model.Step
meant (step.Plain action) = model.Plain
meant step.Launch = model.Launch
meant step.Cost = model.Cost
meant step.Initialize = model.Plain
meant (step.Phase p) = model.Runs (effect p)
meant (step.SetProperty action name text) = model.SetProperty name text
meant (step.SetDir action dir text) = model.SetDirectory dir text
meant (step.Error action text) = model.Fails text
meant (step.Execute action) = model.Ends
meant step.Finalize = model.Ends
meant step.End = model.Plain

-- the action that is begun
abbrev pub action_of : Step → Name
action_of (step.Plain action) = action
action_of step.Launch = codes "LaunchConditions"
action_of step.Cost = codes "CostFinalize"
action_of step.Initialize = codes "InstallInitialize"
action_of (step.Phase p) = phase_action p
action_of (step.SetProperty action name text) = action
action_of (step.SetDir action dir text) = action
action_of (step.Error action text) = action
action_of (step.Execute action) = action
action_of step.Finalize = codes "InstallFinalize"
action_of step.End = []
