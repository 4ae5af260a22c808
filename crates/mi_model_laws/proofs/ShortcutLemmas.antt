-- The shortcuts that CreateShortcuts and RemoveShortcuts leave, and the folders that they make and prune.
use Rattle.std.proofs.Common.{◌≡◌, false, cond, List, [], map, Option, Some, None, refl, sym, ap, ◌∙◌}
use Rattle.std.specs.Prelude.{◌&&◌, not, flat_map, option_map, ok_or, Result, Ok}
use Rattle.std.specs.List.{list_any}
use Rattle.std.specs.Option.{option_map_or, option_or}
use Rattle.std.specs.FinMap.{get}
use Rattle.mi_text.specs.Maps.{Name, same_name}
use Rattle.mi_text.specs.Path.{up_to_last}
use Rattle.mi_base.specs.declared.entry.Entry.{Entry}
use Rattle.mi_base.specs.declared.entry.Entry.TheVariants as entry
use Rattle.mi_base.specs.declared.answers.Fault.{Fault}
use Rattle.mi_base.specs.Machine.{Machine}
use Rattle.mi_base.specs.Names.{shortcut_name, folder_name}
use Rattle.mi_schema.specs.TableRows.{Numbered}
use Rattle.mi_schema.specs.declared.typed_rows.ShortcutRow.{ShortcutRow}
use Rattle.mi_changes.specs.Touches.{Touch, left_at}
use Rattle.mi_model.specs.Texts.{Text}
use Rattle.mi_model.specs.World.{World}
use Rattle.mi_model.specs.Asked.{lookups}
use Rattle.mi_model.specs.Refusals.{◌>>=◌, expanded_or_empty, size_fault, unless}
use Rattle.mi_model.specs.Parents.{folders_down_to}
use Rattle.mi_model.specs.PhaseRows.{after_rows}
use Rattle.mi_model.specs.Prune.{prune_folders}
use Rattle.mi_model.specs.Shortcuts.{shortcut_table, shortcut_path, path_or_refused, target_text, shortcut_entry, shortcut_touches, created_touches, create_shortcuts, is_guarded_shortcut, without_shortcut, removed_shortcut, leaving_shortcuts, touched_folders, remove_shortcuts}
use Rattle.mi_model_laws.specs.PhaseLaws.{IsAfter, in_turn, first_named}
use Rattle.mi_model_laws.specs.RecordLaws.{shortcut_of_texts, made_at, shortcut_by, coming_shortcuts, shortcut_folders, names_shortcut}
use Rattle.mi_model_laws.specs.FolderLaws.{PrunesFolders}
use Rattle.mi_model_laws.proofs.RowLemmas.{from_ok, bound, unrefused, pruned_last, Acts, get-in_turn, made_in_turn, unless_guarded, guarded_stays, unless_taken, taken_by_any, any_and}
use Rattle.mi_model_laws.proofs.ParentLemmas.{IsNoFolder, set_in_folder, folders_of_set}
use Rattle.mi_model_laws.proofs.FolderLemmas.{what_prunes, pruning_stays, prunes, leave_each}

-- ---- what is read of a row

abbrev with_arguments : World → Numbered ShortcutRow → Text → Text → Text → Result (List (Touch Entry)) Fault
with_arguments w r path target arguments =
    let e = shortcut_entry w r.row path target arguments in unless (size_fault shortcut_table r.number e) (Ok (shortcut_touches path e))

abbrev with_target : World → Numbered ShortcutRow → Text → Text → Result (List (Touch Entry)) Fault
with_target w r path target = expanded_or_empty (lookups w) shortcut_table r.number r.row.arguments >>= with_arguments w r path target

abbrev with_path : World → Numbered ShortcutRow → Text → Result (List (Touch Entry)) Fault
with_path w r path = target_text w r >>= with_target w r path

some_path : {A : Type 0} → (o : Option A) (fault : Fault) (x : A) → ok_or o fault ≡ Ok x → o ≡ Some x
some_path None fault x e = cc
some_path (Some y) fault x e = ap (λ (z : _). Some z) (from_ok y x e)

-- a row that isn't refused: its path, and what it touches
pub record Made (w : World) (r : Numbered ShortcutRow) (ts : List (Touch Entry)) : Type 0 where
  pub path : Text
  pub at : shortcut_path w r.row ≡ Some path
  pub made : Entry
  pub is : made_at w r path ≡ Some made
  pub touches : shortcut_touches path made ≡ ts

pub made_of : (w : World) (r : Numbered ShortcutRow) (ts : List (Touch Entry)) → created_touches w r ≡ Ok ts → Made w r ts
unfolding created_touches
made_of w r ts e =
    let path = bound (path_or_refused w r) (with_path w r) ts e in
    let target = bound (target_text w r) (with_target w r path.value) ts path.rest in
    let arguments = bound (expanded_or_empty (lookups w) shortcut_table r.number r.row.arguments) (with_arguments w r path.value target.value) ts target.rest in
    let made = shortcut_entry w r.row path.value target.value arguments.value in
    let fine = unrefused (size_fault shortcut_table r.number made) (Ok (shortcut_touches path.value made)) ts arguments.rest in
    record {
      path = path.value;
      at = some_path (shortcut_path w r.row) _ path.value path.is;
      made = made;
      is = ap (λ t. shortcut_of_texts w r.row path.value t (expanded_or_empty (lookups w) shortcut_table r.number r.row.arguments)) target.is
          ∙ ap (shortcut_of_texts w r.row path.value (Ok target.value)) arguments.is;
      touches = from_ok (shortcut_touches path.value made) ts fine.is;
    }

-- ---- CreateShortcuts

shortcut_is_no_folder : (path : Text) → IsNoFolder (shortcut_name path)
unfolding shortcut_name folder_name
shortcut_is_no_folder path folder = refl

created_acts : (w : World) (path : Text) (r : Numbered ShortcutRow) → Acts (shortcut_name path) (λ m. created_touches w r) (shortcut_by w (shortcut_name path) r)
created_acts w path r m ts e old =
    let q = shortcut_name path in
    let made = made_of w r ts e in
    ap (λ (ts : List (Touch Entry)). left_at q ts old) (sym made.touches)
    ∙ set_in_folder q (shortcut_name made.path) (λ o. Some made.made) (up_to_last made.path) old (shortcut_is_no_folder path)
    ∙ ap (λ o. cond (same_name q (shortcut_name made.path)) o old) (sym made.is)
    ∙ ap (λ (o : Option Text). option_map_or (λ (p : Text). cond (same_name q (shortcut_name p)) (made_at w r p) old) o old) (sym made.at)

pub shortcuts_are_created : (w : World) (m : Machine) → IsAfter create_shortcuts w m → (path : Text) →
    get m (shortcut_name path) ≡ in_turn (shortcut_by w (shortcut_name path)) (coming_shortcuts w) (get w.machine (shortcut_name path))
unfolding create_shortcuts
shortcuts_are_created w m after path =
    let q = shortcut_name path in
    ap (λ n. get n q) after.machine
    ∙ get-in_turn q (λ r m. created_touches w r) (shortcut_by w q) (coming_shortcuts w) w.machine after.rows (created_acts w path) after.touched

folder_acts : (w : World) (folder : Text) (r : Numbered ShortcutRow) → Acts (folder_name folder) (λ m. created_touches w r) (λ old. option_or old (first_named (folder_name folder) (shortcut_folders w r)))
unfolding shortcut_name folder_name
folder_acts w folder r m ts e old =
    let q = folder_name folder in
    let made = made_of w r ts e in
    ap (λ (ts : List (Touch Entry)). left_at q ts old) (sym made.touches)
    ∙ folders_of_set q (shortcut_name made.path) (λ o. Some made.made) (up_to_last made.path) old refl
    ∙ ap (λ (o : Option Text). option_or old (first_named q (option_map_or (λ (p : Text). map entry.Folder (folders_down_to (up_to_last p))) o []))) (sym made.at)

pub their_folders_are_made : (w : World) (m : Machine) → IsAfter create_shortcuts w m → (folder : Text) →
    get m (folder_name folder) ≡ option_or (get w.machine (folder_name folder)) (first_named (folder_name folder) (flat_map (shortcut_folders w) (coming_shortcuts w)))
unfolding create_shortcuts
their_folders_are_made w m after folder =
    let q = folder_name folder in
    ap (λ n. get n q) after.machine
    ∙ get-in_turn q (λ r m. created_touches w r) (λ r old. option_or old (first_named q (shortcut_folders w r))) (coming_shortcuts w) w.machine after.rows (folder_acts w folder) after.touched
    ∙ made_in_turn q (shortcut_folders w) (coming_shortcuts w) (get w.machine q)

-- ---- RemoveShortcuts

abbrev pub taken : World → Name → Numbered ShortcutRow → Option Entry → Option Entry
taken w q r = unless_taken (names_shortcut w q r && not (is_guarded_shortcut w q))

-- at any name
pub removed_at : (w : World) (q : Name) (r : Numbered ShortcutRow) → Acts q (λ m. removed_shortcut w r) (taken w q r)
unfolding removed_shortcut
removed_at w q r m ts e old =
    let path = bound (path_or_refused w r) (λ path. Ok (without_shortcut w (shortcut_name path))) ts e in
    ap (λ (ts : List (Touch Entry)). left_at q ts old) (sym (from_ok (without_shortcut w (shortcut_name path.value)) ts path.rest))
    ∙ unless_guarded (is_guarded_shortcut w) q (shortcut_name path.value) (λ o. None) old
    ∙ guarded_stays (same_name q (shortcut_name path.value)) (is_guarded_shortcut w q) old
    ∙ ap (λ (o : Option Text). unless_taken (option_map_or (same_name q) (option_map shortcut_name o) false && not (is_guarded_shortcut w q)) old) (sym (some_path (shortcut_path w r.row) _ path.value path.is))

pub shortcuts_are_removed : (w : World) (m : Machine) → IsAfter remove_shortcuts w m → (path : Text) →
    get m (shortcut_name path) ≡ cond (list_any (names_shortcut w (shortcut_name path)) (leaving_shortcuts w) && not (is_guarded_shortcut w (shortcut_name path))) None (get w.machine (shortcut_name path))
unfolding remove_shortcuts shortcut_name
shortcuts_are_removed w m after path =
    let q = shortcut_name path in
    let rows = leaving_shortcuts w in
    let last = pruned_last w.machine (map (λ r m. removed_shortcut w r) rows) (prune_folders w (touched_folders w)) after.rows after.touched in
    let n = after_rows w.machine last.front in
    ap (λ k. get k q) after.machine
    ∙ last.after q
    ∙ ap (λ (ts : List (Touch Entry)). left_at q ts (get n q)) (sym (what_prunes w (touched_folders w) n last.back last.second))
    ∙ pruning_stays w (touched_folders w) n q (get n q) refl
    ∙ get-in_turn q (λ r m. removed_shortcut w r) (taken w q) rows w.machine last.front (removed_at w q) last.first
    ∙ taken_by_any (λ r. names_shortcut w q r && not (is_guarded_shortcut w q)) rows (get w.machine q)
    ∙ ap (λ b. unless_taken b (get w.machine q)) (any_and (names_shortcut w q) (not (is_guarded_shortcut w q)) rows)

-- a row leaves folders alone
row_leaves : (w : World) (folder : Text) (r : Numbered ShortcutRow) → Acts (folder_name folder) (λ m. removed_shortcut w r) (λ old. old)
unfolding shortcut_name folder_name
row_leaves w folder r m ts e old = removed_at w (folder_name folder) r m ts e old ∙ unnamed (shortcut_path w r.row)
  where
    unnamed : (o : Option Text) → unless_taken (option_map_or (same_name (folder_name folder)) (option_map shortcut_name o) false && not (is_guarded_shortcut w (folder_name folder))) old ≡ old
    unnamed None = refl
    unnamed (Some path) = refl

pub their_folders_are_pruned : PrunesFolders touched_folders remove_shortcuts
unfolding remove_shortcuts
their_folders_are_pruned w m after =
    prunes w m (map (λ r m. removed_shortcut w r) (leaving_shortcuts w)) (touched_folders w) after.rows (leave_each w.machine (λ r m. removed_shortcut w r) (leaving_shortcuts w) (row_leaves w)) after.touched after.machine
