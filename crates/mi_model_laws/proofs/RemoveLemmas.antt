-- The files that RemoveFiles leaves, and the folders that it prunes.
use Rattle.std.proofs.Common.{◌≡◌, Bool, true, false, cond, ◌||◌, List, [], ◌∷◌, ◌++◌, map, Option, Some, None, refl, sym, ap, ◌∙◌}
use Rattle.std.specs.Prelude.{◌&&◌, not, option_map, Result, Ok, codes}
use Rattle.std.specs.List.{list_any}
use Rattle.std.specs.Option.{option_map_or, option_flatten}
use Rattle.std.specs.FinMap.{get}
use Rattle.mi_text.specs.Maps.{Name, same_name}
use Rattle.mi_text.specs.FileNames.{long_name}
use Rattle.mi_base.specs.declared.entry.Entry.{Entry}
use Rattle.mi_base.specs.declared.answers.Fault.{Fault}
use Rattle.mi_base.specs.Names.{file_name, folder_name}
use Rattle.mi_base.specs.Machine.{Machine, file_at, as_file}
use Rattle.mi_dirs.specs.Places.{Folder}
use Rattle.mi_schema.specs.TableRows.{Numbered}
use Rattle.mi_schema.specs.declared.typed_rows.FileRow.{FileRow}
use Rattle.mi_schema.specs.declared.typed_rows.RemoveFileRow.{RemoveFileRow}
use Rattle.mi_changes.specs.Touches.{Touch, left_at}
use Rattle.mi_model.specs.Texts.{Text}
use Rattle.mi_model.specs.World.{World, RowEffect}
use Rattle.mi_model.specs.PhaseRows.{Touches, after_rows, by_rows}
use Rattle.mi_model.specs.Refusals.{◌>>=◌}
use Rattle.mi_model.specs.Prune.{prune_folders}
use Rattle.mi_model.specs.ComponentRows.{is_local}
use Rattle.mi_model.specs.FilePaths.{path_of_row, right_path, is_guarded_file, file_named, takes_file}
use Rattle.mi_model.specs.RemoveFiles.{removed_file, leaving_files, rows_in_force, folder_of_row, lies_in, takes_in, takes_at, removed_by_pattern, touched_folders, remove_files}
use Rattle.mi_model_laws.specs.PhaseLaws.{IsAfter, in_turn}
use Rattle.mi_model_laws.specs.FileLaws.{is_name, is_matched_by, is_matched, is_removed, files_after_remove}
use Rattle.mi_model_laws.specs.FolderLaws.{PrunesFolders}
use Rattle.mi_model_laws.proofs.RowLemmas.{from_ok, parted, after-append, pruned_last, Acts, get-in_turn, unless_guarded, guarded_stays, unless_taken, twice, taken_by_any, any_and}
use Rattle.mi_model_laws.proofs.FolderLemmas.{LeavesFolders, what_prunes, pruning_stays, prunes}

-- ---- rows of File

-- what a leaving row takes
pub takes_acts : (w : World) (q : Name) (table : Text) (row : _) (path : Option Text) (m : Machine) (ts : List (Touch Entry)) (old : Option Entry)
    → (right_path table row path >>= λ p. Ok (takes_file w p)) ≡ Ok ts → left_at q ts old ≡ unless_taken (is_name q (option_map file_name path) && not (is_guarded_file w q)) old
takes_acts w q table row None m ts old e = cc
takes_acts w q table row (Some path) m ts old e =
    ap (λ (ts : List (Touch Entry)). left_at q ts old) (sym (from_ok (takes_file w path) ts e))
    ∙ unless_guarded (is_guarded_file w) q (file_name path) (λ o. None) old
    ∙ guarded_stays (same_name q (file_name path)) (is_guarded_file w q) old

-- what each row makes of what stands at a name
abbrev pub file_step : World → Name → Numbered FileRow → Option Entry → Option Entry
file_step w q r = unless_taken (is_name q (file_named w r) && not (is_guarded_file w q))

abbrev pub pattern_step : World → Name → Numbered RemoveFileRow → Option Entry → Option Entry
pattern_step w q r = unless_taken (is_matched_by w r.row q && (is_local w r.row.component || not (is_guarded_file w q)))

file_acts : (w : World) (q : Name) (r : Numbered FileRow) → Acts q (removed_file w r) (file_step w q r)
file_acts w q r m ts e old = takes_acts w q (codes "File") r.number (path_of_row w r.row) m ts old e

-- ---- rows of RemoveFile

abbrev fine : List (Touch Entry) → Result (List (Touch Entry)) Fault
fine ts = Ok ts

pattern_acts : (w : World) (q : Name) (r : Numbered RemoveFileRow) → Acts q (removed_by_pattern w r) (pattern_step w q r)
pattern_acts w q r m ts e old = at_folder (folder_of_row w r.row) e
  where
    in_folder : (folder : Folder) (name : Option Text) → fine (takes_in w r.row folder name) ≡ Ok ts
        → left_at q ts old ≡ cond (option_map_or (λ name. lies_in folder (long_name name) q) name false && (is_local w r.row.component || not (is_guarded_file w q))) None old
    in_folder folder None e = ap (λ (ts : List (Touch Entry)). left_at q ts old) (sym (from_ok _ ts e))
    in_folder folder (Some name) e = ap (λ (ts : List (Touch Entry)). left_at q ts old) (sym (from_ok _ ts e))

    at_folder : (folder : Option (Option Folder)) → takes_at w r folder ≡ Ok ts
        → left_at q ts old ≡ cond (option_map_or (λ (folder : Folder). option_map_or (λ name. lies_in folder (long_name name) q) r.row.file_name false) (option_flatten folder) false && (is_local w r.row.component || not (is_guarded_file w q))) None old
    at_folder None e = ap (λ (ts : List (Touch Entry)). left_at q ts old) (sym (from_ok _ ts e))
    at_folder (Some None) e = cc
    at_folder (Some (Some folder)) e = in_folder folder r.row.file_name e

-- ---- the phase

abbrev pub rows_of_files : World → List RowEffect
rows_of_files w = map (removed_file w) (leaving_files w)

abbrev pub rows_of_patterns : World → List RowEffect
rows_of_patterns w = map (removed_by_pattern w) (rows_in_force w)

-- both kinds of rows, at a name
pub rows_leave : (w : World) (q : Name) (touches : List Touches) → by_rows w.machine (rows_of_files w ++ rows_of_patterns w) ≡ Ok touches
    → get (after_rows w.machine touches) q ≡ in_turn (pattern_step w q) (rows_in_force w) (in_turn (file_step w q) (leaving_files w) (get w.machine q))
rows_leave w q touches e =
    let two = parted w.machine (rows_of_files w) (rows_of_patterns w) touches e in
    ap (λ (ts : List Touches). get (after_rows w.machine ts) q) two.whole
    ∙ ap (λ n. get n q) (after-append w.machine two.front two.back)
    ∙ get-in_turn q (removed_by_pattern w) (pattern_step w q) (rows_in_force w) (after_rows w.machine two.front) two.back (pattern_acts w q) two.second
    ∙ ap (in_turn (pattern_step w q) (rows_in_force w)) (get-in_turn q (removed_file w) (file_step w q) (leaving_files w) w.machine two.front (file_acts w q) two.first)

-- what stands at the name of a file after the phase
pub entry_after_remove : (w : World) (m : Machine) → IsAfter remove_files w m → (path : Text) → get m (file_name path) ≡ unless_taken (is_removed w (file_name path)) (get w.machine (file_name path))
unfolding remove_files file_name
entry_after_remove w m after path =
    let q = file_name path in
    let old = get w.machine q in
    let leaving = list_any (λ r. is_name q (file_named w r) && not (is_guarded_file w q)) (leaving_files w) in
    let last = pruned_last w.machine (rows_of_files w ++ rows_of_patterns w) (prune_folders w (touched_folders w)) after.rows after.touched in
    let n = after_rows w.machine last.front in
    ap (λ k. get k q) after.machine
    ∙ last.after q
    ∙ ap (λ (ts : List (Touch Entry)). left_at q ts (get n q)) (sym (what_prunes w (touched_folders w) n last.back last.second))
    ∙ pruning_stays w (touched_folders w) n q (get n q) refl
    ∙ rows_leave w q last.front last.first
    ∙ taken_by_any (λ r. is_matched_by w r.row q && (is_local w r.row.component || not (is_guarded_file w q))) (rows_in_force w) (in_turn (file_step w q) (leaving_files w) old)
    ∙ ap (unless_taken (is_matched w q)) (taken_by_any (λ r. is_name q (file_named w r) && not (is_guarded_file w q)) (leaving_files w) old)
    ∙ twice leaving (is_matched w q) old
    ∙ ap (λ b. unless_taken (b || is_matched w q) old) (any_and (λ r. is_name q (file_named w r)) (not (is_guarded_file w q)) (leaving_files w))

pub as_file_unless : (b : Bool) (o : Option Entry) → as_file (unless_taken b o) ≡ cond b None (as_file o)
as_file_unless true o = refl
as_file_unless false o = refl

pub files_are_removed : (w : World) (m : Machine) → IsAfter remove_files w m → (path : Text) → file_at m path ≡ files_after_remove w path
files_are_removed w m after path = ap as_file (entry_after_remove w m after path) ∙ as_file_unless (is_removed w (file_name path)) (get w.machine (file_name path))

-- ---- folders

-- a row of File or of a copy leaves them alone
pub no_file_named : (folder : Text) (path : Option Text) (guarded : Bool) (old : Option Entry) → unless_taken (is_name (folder_name folder) (option_map file_name path) && guarded) old ≡ old
unfolding file_name folder_name
no_file_named folder None guarded old = refl
no_file_named folder (Some path) guarded old = refl

no_file_matched : (w : World) (folder : Text) (r : RemoveFileRow) (guarded : Bool) (old : Option Entry) → unless_taken (is_matched_by w r (folder_name folder) && guarded) old ≡ old
unfolding folder_name
no_file_matched w folder r guarded old = at_folder (option_flatten (folder_of_row w r))
  where
    at_name : (f : Folder) (name : Option Text) → unless_taken (option_map_or (λ name. lies_in f (long_name name) (folder_name folder)) name false && guarded) old ≡ old
    at_name f None = refl
    at_name f (Some name) = refl

    at_folder : (f : Option Folder) → unless_taken (option_map_or (λ (f : Folder). option_map_or (λ name. lies_in f (long_name name) (folder_name folder)) r.file_name false) f false && guarded) old ≡ old
    at_folder None = refl
    at_folder (Some f) = at_name f r.file_name

pub unchanged : {R : Type 0} → (step : R → Option Entry → Option Entry) (rows : List R) (old : Option Entry) → ((r : R) (o : Option Entry) → step r o ≡ o) → in_turn step rows old ≡ old
unchanged step [] old each = refl
unchanged step (r ∷ rows) old each = ap (in_turn step rows) (each r old) ∙ unchanged step rows old each

rows_leave_folders : (w : World) → LeavesFolders w.machine (rows_of_files w ++ rows_of_patterns w)
rows_leave_folders w = record {
  folders = λ touches e folder.
      let q = folder_name folder in
      rows_leave w q touches e
      ∙ unchanged (pattern_step w q) (rows_in_force w) (in_turn (file_step w q) (leaving_files w) (get w.machine q)) (λ r old. no_file_matched w folder r.row (is_local w r.row.component || not (is_guarded_file w q)) old)
      ∙ unchanged (file_step w q) (leaving_files w) (get w.machine q) (λ r old. no_file_named folder (path_of_row w r.row) (not (is_guarded_file w q)) old);
}

pub their_folders_are_pruned : PrunesFolders touched_folders remove_files
unfolding remove_files
their_folders_are_pruned w m after = prunes w m (rows_of_files w ++ rows_of_patterns w) (touched_folders w) after.rows (rows_leave_folders w) after.touched after.machine
