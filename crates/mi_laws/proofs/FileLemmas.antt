-- Files go by rows alone.
use Rattle.std.proofs.Common.{◌≡◌, Bool, true, false, cond, List, [], ◌∷◌, map, Option, Some, None, refl, sym, ap, subst, ◌∙◌}
use Rattle.std.specs.Prelude.{◌&&◌, not, nat_eq, codes, option_map, Ok}
use Rattle.std.specs.List.{list_any, starts_with, AllByRecursion}
use Rattle.std.specs.Option.{option_or, option_flatten}
use Rattle.std.specs.FinMap.{get}
use Rattle.mi_text.specs.Maps.{Name, same_name}
use Rattle.mi_text.specs.Fold.{folded}
use Rattle.mi_base.specs.declared.entry.Entry.{Entry}
use Rattle.mi_base.specs.declared.entry.Entry.TheVariants as entry
use Rattle.mi_base.specs.declared.entry.FileEntry.{FileEntry}
use Rattle.mi_base.specs.Machine.{Machine, file_at}
use Rattle.mi_base.specs.Names.{file_name}
use Rattle.mi_schema.specs.TableRows.{Numbered}
use Rattle.mi_schema.specs.declared.typed_rows.DuplicateFileRow.{DuplicateFileRow}
use Rattle.mi_changes.specs.Touches.{Touch, left_at, after_touches}
use Rattle.mi_changes.proofs.TouchLemmas.{get-after_touches}
use Rattle.mi_model.specs.Texts.{Text}
use Rattle.mi_model.specs.World.{World, RowEffect, Effect}
use Rattle.mi_model.specs.Asked.{comes}
use Rattle.mi_model.specs.Refusals.{◌>>=◌}
use Rattle.mi_model.specs.PhaseRows.{Touches, after_rows, by_rows}
use Rattle.mi_model.specs.FilePaths.{copy_path, original_path, is_guarded_file}
use Rattle.mi_model.specs.FileVersions.{is_written}
use Rattle.mi_model.specs.InstallFiles.{Placed, all_placed, source_bytes, installed_file, installed_row, installed_rows, file_with_parents, install_files}
use Rattle.mi_model.specs.DuplicateFiles.{copy_rows, duplicate_files, remove_duplicate_files}
use Rattle.mi_model.specs.RemoveFiles.{remove_files}
use Rattle.mi_model_laws.specs.PhaseLaws.{ChangesOnly}
use Rattle.mi_model_laws.specs.FileLaws.{is_removed}
use Rattle.mi_model_laws.specs.CopyLaws.{copied_entry, copied_to, AreCopiedBy, is_copy_of_leaving}
use Rattle.mi_model_laws.specs.OnlyLaws.{clients_and_counts, shortcuts_and_folders}
use Rattle.mi_model_laws.proofs.OnlyLemmas.{phases_change_only}
use Rattle.mi_model_laws.proofs.RowLemmas.{from_ok, bound, behind, with_first, unless_taken}
use Rattle.mi_model_laws.proofs.RemoveLemmas.{entry_after_remove}
use Rattle.mi_model_laws.proofs.InstallLemmas.{accepted, written_file}
use Rattle.mi_model_laws.proofs.CopyLemmas.{entry_after_removal, files_are_copied}
use Rattle.mi_laws.specs.ValueLaws.{Goes}
use Rattle.mi_laws.specs.FileLaws.{KeepsFiles, phases_but_files, FilesGoByRows}
use Rattle.mi_laws.proofs.StandLemmas.{Stands, what_stands, else_true}

-- ---- the phases that take files away

-- what goes is taken
taken_so : (taken : Bool) (e : Entry) (after : Option Entry) → after ≡ unless_taken taken (Some e) → after ≡ None → taken ≡ true
taken_so taken e after is gone = else_true taken (λ none. subst Stands (sym (ap (λ (b : Bool). unless_taken b (Some e)) none) ∙ sym is ∙ gone) tt)

removed_by_rows : (w : World) (path : Text) → Goes remove_files w (file_name path) → is_removed w (file_name path) ≡ true
removed_by_rows w path g =
    taken_so (is_removed w (file_name path)) g.entry (get g.machine (file_name path)) (entry_after_remove w g.machine g.after path ∙ ap (unless_taken (is_removed w (file_name path))) g.stood) g.gone

copies_by_rows : (w : World) (path : Text) → Goes remove_duplicate_files w (file_name path) → (is_copy_of_leaving w (file_name path) && not (is_guarded_file w (file_name path))) ≡ true
copies_by_rows w path g =
    let taken = is_copy_of_leaving w (file_name path) && not (is_guarded_file w (file_name path)) in
    taken_so taken g.entry (get g.machine (file_name path)) (entry_after_removal w g.machine g.after path ∙ ap (unless_taken taken) g.stood) g.gone

-- ---- InstallFiles

either_stands : (b : Bool) (x y : Entry) → Stands (cond b (Some x) (Some y))
either_stands true x y = tt
either_stands false x y = tt

written_stands : (path : Text) (f : FileEntry) (e : Entry) → Stands (left_at (file_name path) (file_with_parents f) (Some e))
written_stands path f e = subst Stands (sym (written_file path f (Some e))) (either_stands (same_name (folded path) (folded f.shown)) (entry.File f) e)

placed_stands : (w : World) (p : Placed) (path : Text) (m : Machine) (ts : List (Touch Entry)) → installed_row w p m ≡ Ok ts → (e : Entry) → Stands (left_at (file_name path) ts (Some e))
placed_stands w p path m ts is e = by_written (is_written w p.row) is
  where
    by_written : (b : Bool) → cond b (source_bytes w p.row >>= λ bytes. Ok (file_with_parents (installed_file w p bytes))) (Ok []) ≡ Ok ts → Stands (left_at (file_name path) ts (Some e))
    by_written true made =
        let read = bound (source_bytes w p.row) (λ bytes. Ok (file_with_parents (installed_file w p bytes))) ts made in
        subst (λ (l : List (Touch Entry)). Stands (left_at (file_name path) l (Some e))) (from_ok (file_with_parents (installed_file w p read.value)) ts read.rest) (written_stands path (installed_file w p read.value) e)
    by_written false made = subst (λ (l : List (Touch Entry)). Stands (left_at (file_name path) l (Some e))) (from_ok [] ts made) tt

row_keeps : (w : World) (p : Placed) (path : Text) (m : Machine) (ts : List (Touch Entry)) → installed_row w p m ≡ Ok ts → Stands (get m (file_name path)) → Stands (get (after_touches m ts) (file_name path))
row_keeps w p path m ts is s =
    let there = what_stands (get m (file_name path)) s in
    subst Stands (sym (get-after_touches m ts (file_name path) ∙ ap (left_at (file_name path) ts) there.1)) (placed_stands w p path m ts is there.0)

rows_keep : (w : World) (path : Text) (rows : List Placed) (m : Machine) (touches : List Touches) → by_rows m (map (installed_row w) rows) ≡ Ok touches
    → Stands (get m (file_name path)) → Stands (get (after_rows m touches) (file_name path))
rows_keep w path [] m touches is s = subst (λ (ts : List Touches). Stands (get (after_rows m ts) (file_name path))) (from_ok [] touches is) s
rows_keep w path (p ∷ rows) m touches is s =
    let one = bound (installed_row w p m) (behind m (map (installed_row w) rows)) touches is in
    let rest = bound (by_rows (after_touches m one.value) (map (installed_row w) rows)) (with_first one.value) touches one.rest in
    subst (λ (ts : List Touches). Stands (get (after_rows m ts) (file_name path))) (from_ok (one.value ∷ rest.value) touches rest.rest)
    (rows_keep w path rows (after_touches m one.value) rest.value rest.is (row_keeps w p path m one.value one.is s))

rows_of : (w : World) (effects : List RowEffect) → install_files w ≡ Ok effects → (rows : List Placed) × (all_placed w ≡ Ok rows)
unfolding install_files
rows_of w effects is = let placed = bound (all_placed w) (installed_rows w) effects is in (placed.value, placed.is)

none_is_installed_away : (w : World) (path : Text) → ¬ Goes install_files w (file_name path)
none_is_installed_away w path g =
    let effects = bound (install_files w) (by_rows w.machine) g.after.rows g.after.touched in
    let rows = rows_of w effects.value effects.is in
    let fine = accepted w rows.0 g.after.rows rows.1 g.after.touched in
    subst Stands (ap (λ (m : Machine). get m (file_name path)) (sym g.after.machine) ∙ g.gone)
    (rows_keep w path rows.0 w.machine g.after.rows fine.is (subst Stands (sym g.stood) tt))

-- ---- DuplicateFiles

copy_stands : (w : World) (q : Name) (path original : Option Text) (m : Machine) (e : Entry) → Stands (copied_to w q path original m (Some e))
copy_stands w q (Some path) (Some original) m e = by_file (same_name q (file_name path) && not (same_name (folded path) (folded original))) (file_at m original)
  where
    by_file : (b : Bool) (found : Option FileEntry) → Stands (cond b (option_or (option_map (copied_entry w path) found) (Some e)) (Some e))
    by_file true (Some f) = tt
    by_file true None = tt
    by_file false found = tt
copy_stands w q (Some path) None m e = tt
copy_stands w q None (Some original) m e = tt
copy_stands w q None None m e = tt

copies_keep : (w : World) (path : Text) (rows : List (Numbered DuplicateFileRow)) (m after : Machine) → AreCopiedBy w m rows after → Stands (get m (file_name path)) → Stands (get after (file_name path))
copies_keep w path [] m after are s = subst Stands (sym (are (file_name path))) s
copies_keep w path (r ∷ rows) m after are s =
    let there = what_stands (get m (file_name path)) s in
    let q = file_name path in
    copies_keep w path rows are.0 after are.3
    (subst Stands (sym (are.1 path ∙ ap (copied_to w q (option_flatten (copy_path w r.row)) (original_path w r.row) m) there.1)) (copy_stands w q (option_flatten (copy_path w r.row)) (original_path w r.row) m there.0))

none_is_copied_away : (w : World) (path : Text) → ¬ Goes duplicate_files w (file_name path)
none_is_copied_away w path g =
    subst Stands g.gone (copies_keep w path (copy_rows (comes w) w) w.machine g.machine (files_are_copied w g.machine g.after) (subst Stands (sym g.stood) tt))

-- ---- the other phases

no_file_in : (fronts : List Text) (effect : Effect) → ChangesOnly fronts effect → ((path : Text) → list_any (starts_with nat_eq (file_name path)) fronts ≡ false) → KeepsFiles effect
no_file_in fronts effect only none w m after path = only w m after (file_name path) (none path)

others_keep : AllByRecursion KeepsFiles phases_but_files
unfolding file_name
others_keep = (
  no_file_in clients_and_counts _ phases_change_only.clients_and_counts (λ path. refl),
  (
    no_file_in (codes "v" ∷ codes "k" ∷ []) _ phases_change_only.removed_values (λ path. refl),
    (
      no_file_in shortcuts_and_folders _ phases_change_only.removed_shortcuts (λ path. refl),
      (
        no_file_in (codes "n/" ∷ []) _ phases_change_only.removed_variables (λ path. refl),
        (
          no_file_in (codes "d/" ∷ []) _ phases_change_only.removed_folders (λ path. refl),
          (
            no_file_in (codes "d/" ∷ []) _ phases_change_only.created_folders (λ path. refl),
            (
              no_file_in shortcuts_and_folders _ phases_change_only.created_shortcuts (λ path. refl),
              (
                no_file_in (codes "v/" ∷ codes "k/" ∷ []) _ phases_change_only.written_values (λ path. refl),
                (
                  no_file_in (codes "n/" ∷ []) _ phases_change_only.written_variables (λ path. refl),
                  (
                    no_file_in (codes "p/" ∷ []) _ phases_change_only.product (λ path. refl),
                    tt,
                  ),
                ),
              ),
            ),
          ),
        ),
      ),
    ),
  ),
)

pub files_go_by_rows : FilesGoByRows
files_go_by_rows = record { removed = removed_by_rows; copies = copies_by_rows; installed = none_is_installed_away; copied = none_is_copied_away; others = others_keep }
