-- The files that DuplicateFiles and RemoveDuplicateFiles leave, and the folders that they make and prune.
use Rattle.std.proofs.Common.{◌≡◌, Bool, true, false, cond, List, [], ◌∷◌, map, Option, Some, None, refl, sym, ap, subst, ◌∙◌}
use Rattle.std.specs.Prelude.{◌&&◌, not, is_some, option_map, codes, Result, Ok}
use Rattle.std.specs.Option.{option_flatten, option_or}
use Rattle.std.specs.FinMap.{get}
use Rattle.mi_text.specs.Maps.{Name, same_name}
use Rattle.mi_text.specs.Fold.{folded}
use Rattle.mi_text.specs.Path.{up_to_last}
use Rattle.mi_base.specs.declared.entry.Entry.{Entry}
use Rattle.mi_base.specs.declared.entry.Entry.TheVariants as entry
use Rattle.mi_base.specs.declared.entry.FileEntry.{FileEntry}
use Rattle.mi_base.specs.declared.answers.Fault.{Fault}
use Rattle.mi_base.specs.Names.{file_name, folder_name}
use Rattle.mi_base.specs.Machine.{Machine, file_at, as_file}
use Rattle.mi_schema.specs.TableRows.{Numbered}
use Rattle.mi_schema.specs.declared.typed_rows.DuplicateFileRow.{DuplicateFileRow}
use Rattle.mi_changes.specs.Touches.{Touch, left_at, after_touches}
use Rattle.mi_changes.proofs.TouchLemmas.{get-after_touches}
use Rattle.mi_model.specs.Texts.{Text}
use Rattle.mi_model.specs.World.{World}
use Rattle.mi_model.specs.Asked.{comes, leaves}
use Rattle.mi_model.specs.PhaseRows.{Touches, after_rows, by_rows}
use Rattle.mi_model.specs.Refusals.{◌>>=◌}
use Rattle.mi_model.specs.Parents.{folders_down_to}
use Rattle.mi_model.specs.Prune.{prune_folders}
use Rattle.mi_model.specs.FilePaths.{copy_path, original_path, right_path, copy_named, is_guarded_file, takes_file}
use Rattle.mi_model.specs.InstallFiles.{file_with_parents}
use Rattle.mi_model.specs.DuplicateFiles.{copy_rows, with_path, copied_row, copies, copied_file, duplicate_files, removed_copy, touched_folders, remove_duplicate_files}
use Rattle.mi_model_laws.specs.PhaseLaws.{IsAfter, first_named}
use Rattle.mi_model_laws.specs.FileLaws.{is_name}
use Rattle.mi_model_laws.specs.CopyLaws.{copied_entry, copied_to, folders_of_copy, AreCopiedBy, is_copy_of_leaving}
use Rattle.mi_model_laws.specs.FolderLaws.{PrunesFolders}
use Rattle.mi_model_laws.proofs.RowLemmas.{from_ok, bound, behind, with_first, pruned_last, Acts, get-in_turn, unless_taken, taken_by_any, any_and}
use Rattle.mi_model_laws.proofs.FolderLemmas.{what_prunes, pruning_stays, prunes, leave_each}
use Rattle.mi_model_laws.proofs.RemoveLemmas.{takes_acts, as_file_unless, no_file_named}
use Rattle.mi_model_laws.proofs.InstallLemmas.{and_false, and_true, same_file_name, written_file, folders_of_written}

-- ---- DuplicateFiles

abbrev pub fine : List (Touch Entry) → Result (List (Touch Entry)) Fault
fine ts = Ok ts

-- what a row makes at the name of a file, and at that of a folder
abbrev CopiesAt : World → Machine → Option (Option Text) → Option Text → List (Touch Entry) → Type 0
CopiesAt w m at original ts =
    ((path : Text) (old : Option Entry) → left_at (file_name path) ts old ≡ copied_to w (file_name path) (option_flatten at) original m old)
    × ((folder : Text) (old : Option Entry) → left_at (folder_name folder) ts old ≡ folders_of_copy w (folder_name folder) (option_flatten at) original m old)

either_way : {X : Type 0} → (b : Bool) (x : X) → cond b x x ≡ x
either_way true x = refl
either_way false x = refl

-- at the name of a file
copied_file_at : (w : World) (path at original : Text) (ts : List (Touch Entry)) (old : Option Entry) (o : Option FileEntry) → fine (copies w at original o) ≡ Ok ts
    → left_at (file_name path) ts old ≡ cond (same_name (file_name path) (file_name at) && not (same_name (folded at) (folded original))) (option_or (option_map (copied_entry w at) o) old) old
copied_file_at w path at original ts old None e =
    ap (λ (ts : List (Touch Entry)). left_at (file_name path) ts old) (sym (from_ok [] ts e))
    ∙ sym (either_way (same_name (file_name path) (file_name at) && not (same_name (folded at) (folded original))) old)
copied_file_at w path at original ts old (Some f) e = by_same (same_name (folded at) (folded original)) e
  where
    by_same : (b : Bool) → fine (cond b [] (file_with_parents (copied_file w at f))) ≡ Ok ts → left_at (file_name path) ts old ≡ cond (same_name (file_name path) (file_name at) && not b) (Some (copied_entry w at f)) old
    by_same true e = ap (λ (ts : List (Touch Entry)). left_at (file_name path) ts old) (sym (from_ok [] ts e)) ∙ sym (and_false (same_name (file_name path) (file_name at)) (Some (copied_entry w at f)) old)
    by_same false e =
        ap (λ (ts : List (Touch Entry)). left_at (file_name path) ts old) (sym (from_ok (file_with_parents (copied_file w at f)) ts e))
        ∙ written_file path (copied_file w at f) old
        ∙ ap (λ (b : Bool). cond b (Some (copied_entry w at f)) old) (sym (same_file_name path at))
        ∙ sym (and_true (same_name (file_name path) (file_name at)) (Some (copied_entry w at f)) old)

-- and at that of a folder
copied_folders_at : (w : World) (folder at original : Text) (ts : List (Touch Entry)) (old : Option Entry) (o : Option FileEntry) → fine (copies w at original o) ≡ Ok ts
    → left_at (folder_name folder) ts old ≡ cond (is_some o && not (same_name (folded at) (folded original))) (option_or old (first_named (folder_name folder) (map entry.Folder (folders_down_to (up_to_last at))))) old
copied_folders_at w folder at original ts old None e = ap (λ (ts : List (Touch Entry)). left_at (folder_name folder) ts old) (sym (from_ok [] ts e))
copied_folders_at w folder at original ts old (Some f) e = by_same (same_name (folded at) (folded original)) e
  where
    by_same : (b : Bool) → fine (cond b [] (file_with_parents (copied_file w at f))) ≡ Ok ts
        → left_at (folder_name folder) ts old ≡ cond (true && not b) (option_or old (first_named (folder_name folder) (map entry.Folder (folders_down_to (up_to_last at))))) old
    by_same true e = ap (λ (ts : List (Touch Entry)). left_at (folder_name folder) ts old) (sym (from_ok [] ts e))
    by_same false e =
        ap (λ (ts : List (Touch Entry)). left_at (folder_name folder) ts old) (sym (from_ok (file_with_parents (copied_file w at f)) ts e))
        ∙ folders_of_written folder (copied_file w at f) old

row_copies : (w : World) (r : Numbered DuplicateFileRow) (m : Machine) (ts : List (Touch Entry)) → copied_row w r m ≡ Ok ts → CopiesAt w m (copy_path w r.row) (original_path w r.row) ts
row_copies w r m ts e = at_path (copy_path w r.row) e
  where
    nothing : (original : Option Text) → fine [] ≡ Ok ts → CopiesAt w m None original ts
    nothing original e = (λ path old. ap (λ (ts : List (Touch Entry)). left_at (file_name path) ts old) (sym (from_ok [] ts e)), λ folder old. ap (λ (ts : List (Touch Entry)). left_at (folder_name folder) ts old) (sym (from_ok [] ts e)))

    at_original : (at : Text) (original : Option Text) → (right_path (codes "DuplicateFile") r.number original >>= λ o. Ok (copies w at o (file_at m o))) ≡ Ok ts → CopiesAt w m (Some (Some at)) original ts
    at_original at None e = cc
    at_original at (Some o) e = (λ path old. copied_file_at w path at o ts old (file_at m o) e, λ folder old. copied_folders_at w folder at o ts old (file_at m o) e)

    at_path : (at : Option (Option Text)) → with_path r at (λ p. right_path (codes "DuplicateFile") r.number (original_path w r.row) >>= λ o. Ok (copies w p o (file_at m o))) ≡ Ok ts → CopiesAt w m at (original_path w r.row) ts
    at_path None e = nothing (original_path w r.row) e
    at_path (Some None) e = cc
    at_path (Some (Some p)) e = at_original p (original_path w r.row) e

rows_copy : (w : World) (m : Machine) (rows : List (Numbered DuplicateFileRow)) (touches : List Touches) → by_rows m (map (copied_row w) rows) ≡ Ok touches → AreCopiedBy w m rows (after_rows m touches)
rows_copy w m [] touches e = λ q. ap (λ (ts : List Touches). get (after_rows m ts) q) (sym (from_ok [] touches e))
rows_copy w m (r ∷ rows) touches e =
    let one = bound (copied_row w r m) (behind m (map (copied_row w) rows)) touches e in
    let rest = bound (by_rows (after_touches m one.value) (map (copied_row w) rows)) (with_first one.value) touches one.rest in
    let at = row_copies w r m one.value one.is in (
      after_touches m one.value,
      λ path. get-after_touches m one.value (file_name path) ∙ at.0 path (get m (file_name path)),
      λ folder. get-after_touches m one.value (folder_name folder) ∙ at.1 folder (get m (folder_name folder)),
      subst (λ (n : Machine). AreCopiedBy w (after_touches m one.value) rows n) (ap (after_rows m) (from_ok (one.value ∷ rest.value) touches rest.rest)) (rows_copy w (after_touches m one.value) rows rest.value rest.is),
    )

pub files_are_copied : (w : World) (m : Machine) → IsAfter duplicate_files w m → AreCopiedBy w w.machine (copy_rows (comes w) w) m
unfolding duplicate_files
files_are_copied w m after = subst (λ (n : Machine). AreCopiedBy w w.machine (copy_rows (comes w) w) n) (sym after.machine) (rows_copy w w.machine (copy_rows (comes w) w) after.rows after.touched)

-- ---- RemoveDuplicateFiles

abbrev pub copy_step : World → Name → Numbered DuplicateFileRow → Option Entry → Option Entry
copy_step w q r = unless_taken (is_name q (copy_named w r) && not (is_guarded_file w q))

pub copy_acts : (w : World) (q : Name) (r : Numbered DuplicateFileRow) → Acts q (removed_copy w r) (copy_step w q r)
copy_acts w q r m ts e old = at_path (copy_path w r.row) e
  where
    at_path : (path : Option (Option Text)) → with_path r path (λ p. Ok (takes_file w p)) ≡ Ok ts → left_at q ts old ≡ unless_taken (is_name q (option_map file_name (option_flatten path)) && not (is_guarded_file w q)) old
    at_path None e = ap (λ (ts : List (Touch Entry)). left_at q ts old) (sym (from_ok [] ts e))
    at_path (Some path) e = takes_acts w q (codes "DuplicateFile") r.number path m ts old e

pub entry_after_removal : (w : World) (m : Machine) → IsAfter remove_duplicate_files w m → (path : Text)
    → get m (file_name path) ≡ unless_taken (is_copy_of_leaving w (file_name path) && not (is_guarded_file w (file_name path))) (get w.machine (file_name path))
unfolding remove_duplicate_files file_name
entry_after_removal w m after path =
    let q = file_name path in
    let old = get w.machine q in
    let rows = copy_rows (leaves w) w in
    let last = pruned_last w.machine (map (removed_copy w) rows) (prune_folders w (touched_folders w)) after.rows after.touched in
    let n = after_rows w.machine last.front in
    ap (λ k. get k q) after.machine
    ∙ last.after q
    ∙ ap (λ (ts : List (Touch Entry)). left_at q ts (get n q)) (sym (what_prunes w (touched_folders w) n last.back last.second))
    ∙ pruning_stays w (touched_folders w) n q (get n q) refl
    ∙ get-in_turn q (removed_copy w) (copy_step w q) rows w.machine last.front (copy_acts w q) last.first
    ∙ taken_by_any (λ r. is_name q (copy_named w r) && not (is_guarded_file w q)) rows old
    ∙ ap (λ b. unless_taken b old) (any_and (λ r. is_name q (copy_named w r)) (not (is_guarded_file w q)) rows)

pub copies_are_removed : (w : World) (m : Machine) → IsAfter remove_duplicate_files w m → (path : Text) →
    file_at m path ≡ cond (is_copy_of_leaving w (file_name path) && not (is_guarded_file w (file_name path))) None (file_at w.machine path)
copies_are_removed w m after path =
    ap as_file (entry_after_removal w m after path) ∙ as_file_unless (is_copy_of_leaving w (file_name path) && not (is_guarded_file w (file_name path))) (get w.machine (file_name path))

-- ---- folders

row_leaves : (w : World) (folder : Text) (r : Numbered DuplicateFileRow) → Acts (folder_name folder) (removed_copy w r) (λ old. old)
row_leaves w folder r m ts e old =
    copy_acts w (folder_name folder) r m ts e old
    ∙ no_file_named folder (option_flatten (copy_path w r.row)) (not (is_guarded_file w (folder_name folder))) old

pub their_folders_are_pruned : PrunesFolders touched_folders remove_duplicate_files
unfolding remove_duplicate_files
their_folders_are_pruned w m after =
    prunes w m (map (removed_copy w) (copy_rows (leaves w) w)) (touched_folders w) after.rows (leave_each w.machine (removed_copy w) (copy_rows (leaves w) w) (row_leaves w)) after.touched after.machine
