-- What the phases of folders leave, and which folders the phases that take things away prune. (CreateFolders Action; RemoveFolders Action;
-- RemoveFiles Action; RemoveDuplicateFiles Action; RemoveShortcuts Action. The rule of pruning is this project's own.)
use Rattle.std.specs.Prelude.{◌≡◌, false, if◌then◌else◌, List, [], map, flat_map, nat_eq, codes, None}
use Rattle.std.specs.List.{filter_map, starts_with}
use Rattle.std.specs.Option.{option_map_or, option_or}
use Rattle.std.specs.FinMap.{get, keys}
use Rattle.mi_text.specs.Maps.{Name}
use Rattle.mi_text.specs.Fold.{folded}
use Rattle.mi_base.specs.declared.entry.Entry.{Entry}
use Rattle.mi_base.specs.declared.entry.Entry.TheVariants as entry
use Rattle.mi_base.specs.Names.{folder_name}
use Rattle.mi_base.specs.Machine.{Machine}
use Rattle.mi_dirs.specs.Places.{Folder}
use Rattle.mi_schema.specs.TableRows.{Numbered}
use Rattle.mi_schema.specs.declared.typed_rows.CreateFolderRow.{CreateFolderRow}
use Rattle.mi_model.specs.Texts.{Text}
use Rattle.mi_model.specs.World.{World, Effect}
use Rattle.mi_model.specs.Asked.{comes, leaves}
use Rattle.mi_model.specs.Parents.{folders_down_to}
use Rattle.mi_model.specs.Prune.{goes, folder_seat, protected_folders}
use Rattle.mi_model.specs.Folders.{folder_rows, folder_of_row, create_folders, remove_folders}
use Rattle.mi_model.specs.RemoveFiles as file
use Rattle.mi_model.specs.RemoveFiles.{remove_files}
use Rattle.mi_model.specs.DuplicateFiles as copy
use Rattle.mi_model.specs.DuplicateFiles.{remove_duplicate_files}
use Rattle.mi_model.specs.Shortcuts as shortcut
use Rattle.mi_model.specs.Shortcuts.{remove_shortcuts}
use Rattle.mi_model_laws.specs.PhaseLaws.{IsAfter, first_named}

-- ---- CreateFolders

-- the folder of a row, and those above it
abbrev pub folders_of_row : World → Numbered CreateFolderRow → List Entry
folders_of_row w r = option_map_or (λ (folder : Folder). map entry.Folder (folders_down_to folder)) (folder_of_row w r) []

-- a folder that stands stays as it is shown, and a missing one is shown as by the first row that makes it
abbrev pub MakesFolders : Type 0
MakesFolders = (w : World) (m : Machine) → IsAfter create_folders w m → (folder : Text) →
    get m (folder_name folder) ≡ option_or (get w.machine (folder_name folder)) (first_named (folder_name folder) (flat_map (folders_of_row w) (folder_rows (comes w) w)))

-- ---- pruning

-- the machine before the pruning: its folders are as before the phase, and all else as behind it
pub record IsBeforePruning (w : World) (m n : Machine) : Type 0 where
  pub folders : (folder : Text) → get n (folder_name folder) ≡ get w.machine (folder_name folder)
  pub others : (q : Name) → starts_with nat_eq q (codes "d/") ≡ false → get n q ≡ get m q

-- folders go by the rule of pruning alone, over that machine
abbrev pub PrunesFolders : (World → List Text) → Effect → Type 0
PrunesFolders touched effect = (w : World) (m : Machine) → IsAfter effect w m → (n : Machine) × IsBeforePruning w m n × ((folder : Text) →
    get m (folder_name folder) ≡ (if goes folder_seat (keys n) (map folded (touched w)) (map folded (protected_folders w)) (folder_name folder) then None else get w.machine (folder_name folder)))

abbrev pub leaving_folders : World → List Text
leaving_folders w = filter_map (folder_of_row w) (folder_rows (leaves w) w)

pub record FoldersArePruned : Type 0 where
  pub files : PrunesFolders file.touched_folders remove_files
  pub copies : PrunesFolders copy.touched_folders remove_duplicate_files
  pub shortcuts : PrunesFolders shortcut.touched_folders remove_shortcuts
  pub folders : PrunesFolders leaving_folders remove_folders
