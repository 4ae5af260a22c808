-- The laws of all phases and of the walk, as the definitions of this crate state them; which names each phase changes is
-- `phases_change_only` of OnlyLemmas.
use Rattle.mi_model_laws.specs.RegistryLaws.{WritesValues, RemovesValues}
use Rattle.mi_model_laws.specs.RecordLaws.{ProcessesComponents, PublishesProduct, ShortcutsStand, VariablesStand}
use Rattle.mi_model_laws.specs.FileLaws.{FilesAreRemoved, FilesAreInstalled}
use Rattle.mi_model_laws.specs.CopyLaws.{FilesAreCopied}
use Rattle.mi_model_laws.specs.FolderLaws.{FoldersArePruned}
use Rattle.mi_model_laws.specs.WalkLaws.{WalkTouches}
use Rattle.mi_model_laws.proofs.WalkLemmas.{walks_over, touches_are_left, refused_on}
use Rattle.mi_model_laws.proofs.WriteLemmas.{values_are_written, keys_are_made}
use Rattle.mi_model_laws.proofs.RemovalLemmas.{values_are_removed, keys_are_pruned}
use Rattle.mi_model_laws.proofs.ClientLemmas.{product_is_published, others_stay}
use Rattle.mi_model_laws.proofs.CountLemmas.{clients_are_processed, counts_are_kept, keys_are_made_and_pruned, others_are_kept, nothing_is_counted}
use Rattle.mi_model_laws.proofs.ShortcutLemmas as shortcut
use Rattle.mi_model_laws.proofs.ShortcutLemmas.{shortcuts_are_created, shortcuts_are_removed}
use Rattle.mi_model_laws.proofs.VariableLemmas.{variables_are_written, variables_are_removed}
use Rattle.mi_model_laws.proofs.RemoveLemmas as file
use Rattle.mi_model_laws.proofs.RemoveLemmas.{files_are_removed}
use Rattle.mi_model_laws.proofs.InstallLemmas as installed
use Rattle.mi_model_laws.proofs.InstallLemmas.{files_are_installed}
use Rattle.mi_model_laws.proofs.CopyLemmas as copy
use Rattle.mi_model_laws.proofs.CopyLemmas.{files_are_copied, copies_are_removed}
use Rattle.mi_model_laws.proofs.FolderLemmas.{folders_are_pruned}

pub write_registry_values : WritesValues
write_registry_values = record { values = values_are_written; keys = keys_are_made }

pub remove_registry_values : RemovesValues
remove_registry_values = record { values = values_are_removed; keys = keys_are_pruned }

pub process_components : ProcessesComponents
process_components = record { clients = clients_are_processed; counts = counts_are_kept; keys = keys_are_made_and_pruned; others = others_are_kept; uncounted = nothing_is_counted }

pub publish_product : PublishesProduct
publish_product = record { product = product_is_published; others = others_stay }

pub shortcuts : ShortcutsStand
shortcuts = record { created = shortcuts_are_created; folders = shortcut.their_folders_are_made; removed = shortcuts_are_removed }

pub variables : VariablesStand
variables = record { written = variables_are_written; removed = variables_are_removed }

pub remove_files : FilesAreRemoved
remove_files = record { files = files_are_removed }

pub install_files : FilesAreInstalled
install_files = record { files = files_are_installed; folders = installed.their_folders_are_made }

pub duplicate_files : FilesAreCopied
duplicate_files = record { copied = files_are_copied; removed = copies_are_removed }

pub pruned_folders : FoldersArePruned
pruned_folders = record {
  files = file.their_folders_are_pruned;
  copies = copy.their_folders_are_pruned;
  shortcuts = shortcut.their_folders_are_pruned;
  folders = folders_are_pruned;
}

pub walk_touches : WalkTouches
walk_touches = record { whole = walks_over; last = touches_are_left; refused = refused_on }
