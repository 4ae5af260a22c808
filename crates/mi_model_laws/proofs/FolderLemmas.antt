-- The folders that phases make and prune.
use Rattle.std.proofs.Common.{◌≡◌, Bool, true, false, cond, List, [], ◌∷◌, ◌++◌, map, Option, Some, None, refl, sym, ap, ◌∙◌}
use Rattle.std.specs.Prelude.{◌||◌, drop, nat_eq, codes, Ok}
use Rattle.std.specs.List.{starts_with}
use Rattle.std.specs.Option.{option_map_or, option_or}
use Rattle.std.specs.FinMap.{get, keys}
use Rattle.mi_text.specs.Maps.{Name}
use Rattle.mi_text.specs.Fold.{folded}
use Rattle.mi_base.specs.declared.entry.Entry.{Entry}
use Rattle.mi_base.specs.declared.entry.Entry.TheVariants as entry
use Rattle.mi_base.specs.Machine.{Machine}
use Rattle.mi_base.specs.Names.{folder_name}
use Rattle.mi_dirs.specs.Places.{Folder}
use Rattle.mi_schema.specs.TableRows.{Numbered}
use Rattle.mi_schema.specs.declared.typed_rows.CreateFolderRow.{CreateFolderRow}
use Rattle.mi_changes.specs.Touches.{Touch, Clear, left_at}
use Rattle.mi_model.specs.Texts.{Text}
use Rattle.mi_model.specs.World.{World, RowEffect}
use Rattle.mi_model.specs.Asked.{comes}
use Rattle.mi_model.specs.PhaseRows.{Touches, after_rows, by_rows}
use Rattle.mi_model.specs.Parents.{folders_down_to, folder_with_parents}
use Rattle.mi_model.specs.Prune.{Holder, Leaf, Apart, Path, goes, seat_goes, folder_seat, protected_folders, prune_folders}
use Rattle.mi_model.specs.Folders.{folder_rows, folder_of_row, made_folder, create_folders, remove_folders}
use Rattle.mi_model_laws.specs.PhaseLaws.{first_named}
use Rattle.mi_model_laws.specs.FolderLaws.{folders_of_row, MakesFolders, IsBeforePruning, leaving_folders, PrunesFolders}
use Rattle.mi_model_laws.proofs.RowLemmas.{from_ok, pruned_last, Acts, get-in_turn, alone, made_in_turn}
use Rattle.mi_model_laws.proofs.ParentLemmas.{or_nothing, folders_made}

-- ---- CreateFolders

row_makes : (w : World) (folder : Text) (r : Numbered CreateFolderRow) → Acts (folder_name folder) (made_folder w r) (λ old. option_or old (first_named (folder_name folder) (folders_of_row w r)))
row_makes w folder r m ts e old =
    ap (λ (ts : List (Touch Entry)). left_at (folder_name folder) ts old) (sym (from_ok (option_map_or folder_with_parents (folder_of_row w r) []) ts e))
    ∙ at_row (folder_of_row w r)
  where
    at_row : (o : Option Folder) → left_at (folder_name folder) (option_map_or folder_with_parents o []) old
        ≡ option_or old (first_named (folder_name folder) (option_map_or (λ (f : Folder). map entry.Folder (folders_down_to f)) o []))
    at_row None = sym (or_nothing old)
    at_row (Some f) = folders_made (folder_name folder) f old

pub folders_are_made : MakesFolders
unfolding create_folders
folders_are_made w m after folder =
    let q = folder_name folder in
    ap (λ n. get n q) after.machine
    ∙ get-in_turn q (made_folder w) (λ r old. option_or old (first_named q (folders_of_row w r))) (folder_rows (comes w) w) w.machine after.rows (row_makes w folder) after.touched
    ∙ made_in_turn q (folders_of_row w) (folder_rows (comes w) w) (get w.machine q)

-- ---- pruning

abbrev pub pruning : World → List Text → Machine → List (Touch Entry)
pruning w touched m = Clear (goes folder_seat (keys m) (map folded touched) (map folded (protected_folders w))) ∷ []

pub what_prunes : (w : World) (touched : List Text) (m : Machine) (ts : List (Touch Entry)) → prune_folders w touched m ≡ Ok ts → pruning w touched m ≡ ts
unfolding prune_folders
what_prunes w touched m ts e = from_ok (pruning w touched m) ts e

-- what is no folder stays
no_folder : (held : List Name) (touched protected : List Path) (q : Name) → starts_with nat_eq q (codes "d/") ≡ false → goes folder_seat held touched protected q ≡ false
unfolding goes
no_folder held touched protected q apart = by_start (starts_with nat_eq q (codes "d/")) (starts_with nat_eq q (codes "f/") || starts_with nat_eq q (codes "s/")) apart
  where
    by_start : (d l : Bool) → d ≡ false → seat_goes folder_seat held touched protected (cond d (Holder (drop 2 q)) (cond l (Leaf (drop 2 q)) Apart)) ≡ false
    by_start true l e = cc
    by_start false true e = refl
    by_start false false e = refl

pub pruning_stays : (w : World) (touched : List Text) (m : Machine) (q : Name) (old : Option Entry) → starts_with nat_eq q (codes "d/") ≡ false → left_at q (pruning w touched m) old ≡ old
pruning_stays w touched m q old apart = ap (λ b. cond b None old) (no_folder (keys m) (map folded touched) (map folded (protected_folders w)) q apart)

-- rows that leave folders alone, and a pruning behind them
pub record LeavesFolders (m : Machine) (rows : List RowEffect) : Type 0 where
  pub folders : (touches : List Touches) → by_rows m rows ≡ Ok touches → (folder : Text) → get (after_rows m touches) (folder_name folder) ≡ get m (folder_name folder)

pub prunes : (w : World) (m : Machine) (rows : List RowEffect) (touched : List Text) (touches : List Touches) → LeavesFolders w.machine rows
    → by_rows w.machine (rows ++ prune_folders w touched ∷ []) ≡ Ok touches → m ≡ after_rows w.machine touches
    → (n : Machine) × IsBeforePruning w m n × ((folder : Text) →
    get m (folder_name folder) ≡ cond (goes folder_seat (keys n) (map folded touched) (map folded (protected_folders w)) (folder_name folder)) None (get w.machine (folder_name folder)))
prunes w m rows touched touches leave e is =
    let last = pruned_last w.machine rows (prune_folders w touched) touches e in
    let n = after_rows w.machine last.front in
    let at = λ (q : Name).
    ap (λ k. get k q) is ∙ last.after q ∙ ap (λ (ts : List (Touch Entry)). left_at q ts (get n q)) (sym (what_prunes w touched n last.back last.second)) in (
      n,
      record {
        folders = leave.folders last.front last.first;
        others = λ q apart. sym (at q ∙ pruning_stays w touched n q (get n q) apart);
      },
      λ folder. at (folder_name folder)
          ∙ ap (λ o. cond (goes folder_seat (keys n) (map folded touched) (map folded (protected_folders w)) (folder_name folder)) None o) (leave.folders last.front last.first folder),
    )

-- rows each of which leaves folders alone
pub leave_each : {R : Type 0} → (m : Machine) (row : R → RowEffect) (rows : List R) → ((folder : Text) (r : R) → Acts (folder_name folder) (row r) (λ old. old)) → LeavesFolders m (map row rows)
leave_each m row rows each = record {
  folders = λ touches e folder. get-in_turn (folder_name folder) row (λ r old. old) rows m touches (each folder) e ∙ alone rows (get m (folder_name folder));
}

-- ---- RemoveFolders

none_touched : (m : Machine) → LeavesFolders m []
none_touched m = record { folders = λ touches e folder. ap (λ (ts : List Touches). get (after_rows m ts) (folder_name folder)) (sym (from_ok [] touches e)) }

pub folders_are_pruned : PrunesFolders leaving_folders remove_folders
unfolding remove_folders
folders_are_pruned w m after = prunes w m [] (leaving_folders w) after.rows (none_touched w.machine) after.touched after.machine
