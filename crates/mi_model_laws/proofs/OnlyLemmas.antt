-- Which names a phase changes: all others are as before.
use Rattle.std.proofs.Common.{Some, ◌≡◌, Bool, true, false, cond, ◌||◌, List, [], ◌∷◌, Option, None, refl, sym, ap, ◌∙◌, map, ◌++◌}
use Rattle.std.specs.Prelude.{drop, ◌&&◌, nat_eq, codes, Ok, Err, not, option_map, Result}
use Rattle.std.specs.List.{starts_with}
use Rattle.std.specs.Str.{bytes_eq}
use Rattle.std.specs.FinMap.{get, keys}
use Rattle.mi_text.specs.Maps.{Name, same_name}
use Rattle.mi_base.specs.declared.entry.Entry.{Entry}
use Rattle.mi_base.specs.Names.{file_name, shortcut_name, product_name, variable_name}
use Rattle.mi_schema.specs.TableRows.{Numbered, product_code}
use Rattle.mi_schema.specs.declared.typed_rows.RegistryRow.{RegistryRow}
use Rattle.mi_schema.specs.declared.typed_rows.RemoveRegistryRow.{RemoveRegistryRow}
use Rattle.mi_changes.specs.Touches.{Touch, Set, Clear, left_at}
use Rattle.mi_model.specs.Texts.{Text}
use Rattle.mi_model.specs.World.{World, RowEffect}
use Rattle.mi_model.specs.Asked.{lookups, leaves, comes}
use Rattle.mi_model.specs.Refusals.{unless, ◌>>=◌}
use Rattle.mi_model.specs.PhaseRows.{after_rows, Touches, by_rows}
use Rattle.mi_model.specs.Prune.{Path, Apart, goes, key_seat, prune_folders}
use Rattle.mi_model.specs.RegistryRows.{RegistryPlace, Says, KeyAlone, Makes, Removes, MakesAndRemoves, Writes, name_of_value, removal_place, registry_meaning}
use Rattle.mi_model.specs.RegistryGuards.{unguarded, seat_goes_with_key, goes_with_key, place_of_key, kept_keys}
use Rattle.mi_model.specs.WriteRegistryValues.{written_rows, value_after, place_touches, meaning_touches, value_fault, write_row, write_registry_values}
use Rattle.mi_model.specs.CountRows.{is_guarded}
use Rattle.mi_model.specs.RemoveRegistryValues.{leaving_rows, removal_rows, value_less, taken_at, removed_touches, removal_touches, touched_keys, remove_row, removal_row, remove_registry_values}
use Rattle.mi_text.specs.Fold.{folded}
use Rattle.mi_base.specs.Machine.{Machine, file_at}
use Rattle.mi_schema.specs.declared.typed_rows.DuplicateFileRow.{DuplicateFileRow}
use Rattle.mi_schema.specs.declared.typed_rows.RemoveFileRow.{RemoveFileRow}
use Rattle.mi_model.specs.ComponentRows.{is_local}
use Rattle.mi_model.specs.Shortcuts.{shortcut_path, created_touches, create_shortcuts, is_guarded_shortcut, removed_shortcut, leaving_shortcuts, remove_shortcuts}
use Rattle.mi_model.specs.FilePaths.{path_of_row, right_path, is_guarded_file, copy_path, original_path}
use Rattle.mi_model.specs.RemoveFiles.{folder_of_row as folder_of_file_row, lies_in, leaving_files, rows_in_force, remove_files}
use Rattle.mi_model.specs.FileVersions.{is_written}
use Rattle.mi_model.specs.InstallFiles.{Placed, all_placed, installed_row, installed_rows, installed_file, source_bytes, file_with_parents, install_files}
use Rattle.mi_model.specs.DuplicateFiles.{copy_rows, with_path, copied_row, copies, copied_file, duplicate_files, removed_copy, remove_duplicate_files}
use Rattle.mi_model_laws.specs.PhaseLaws.{in_turn, ChangesOnly}
use Rattle.mi_model_laws.specs.RecordLaws.{coming_shortcuts, variable_by, coming_variables, variable_less_by}
use Rattle.mi_model_laws.specs.FileLaws.{is_matched_by}
use Rattle.mi_model_laws.specs.FolderLaws.{leaving_folders}
use Rattle.mi_model_laws.proofs.RowLemmas.{unless_taken, from_ok, bound, unrefused, Acts, get-in_turn, alone, unless_guarded, pruned_last}
use Rattle.mi_model_laws.proofs.ParentLemmas.{set_in_folder, IsNoKey, keys_elsewhere, set_in_key, folders_elsewhere}
use Rattle.mi_model_laws.proofs.FolderLemmas.{what_prunes, pruning_stays}
use Rattle.mi_model_laws.proofs.ShortcutLemmas.{made_of, taken, removed_at}
use Rattle.mi_model_laws.proofs.RemoveLemmas.{file_step, pattern_step, rows_of_files, rows_of_patterns, rows_leave, unchanged}
use Rattle.mi_model_laws.proofs.InstallLemmas.{written, accepted}
use Rattle.mi_model_laws.proofs.CopyLemmas.{fine, copy_step, copy_acts}
use Rattle.mi_model_laws.proofs.RemovalLemmas.{parts_of}
use Rattle.std.specs.Option.{option_map_or, option_flatten}
use Rattle.mi_text.specs.Path.{up_to_last, last_part}
use Rattle.mi_model.specs.Parents.{folder_with_parents}
use Rattle.mi_schema.specs.declared.typed_rows.ShortcutRow.{ShortcutRow}
use Rattle.mi_dirs.specs.Places.{Folder}
use Rattle.mi_base.specs.declared.answers.Fault.{Fault}
use Rattle.mi_base.specs.declared.entry.FileEntry.{FileEntry}
use Rattle.mi_model.specs.Folders.{folder_rows, folder_of_row, made_folder, create_folders, remove_folders}
use Rattle.mi_schema.specs.declared.typed_rows.CreateFolderRow.{CreateFolderRow}
use Rattle.mi_text.specs.FileNames.{long_name}
use Rattle.mi_model.specs.Patterns.{has_pattern}
use Rattle.mi_model.specs.PublishProduct.{publish_product}
use Rattle.mi_model.specs.EnvironmentRows.{named_variable}
use Rattle.mi_model.specs.WriteEnvironmentStrings.{write_environment_strings}
use Rattle.mi_model.specs.RemoveEnvironmentStrings.{removing_rows, remove_environment_strings}
use Rattle.mi_model_laws.specs.OnlyLaws.{PhasesChangeOnly}
use Rattle.mi_model_laws.proofs.ClientLemmas.{others_stay}
use Rattle.mi_model_laws.proofs.CountLemmas.{only_clients_and_counts}
use Rattle.mi_model_laws.proofs.NameLemmas.{other_front, first_isnt, second_isnt, no_folder, no_key, no_value, and_true, no_seat, prunes_not, unless_named}
use Rattle.mi_model_laws.proofs.VariableLemmas.{variables_are_written, variables_are_removed}
use Rattle.mi_model.specs.Shortcuts as shortcut
use Rattle.mi_model.specs.RemoveFiles as file
use Rattle.mi_model.specs.DuplicateFiles as copy
use Rattle.mi_base.specs.declared.entry.Entry.TheVariants as entry_of

-- ---- WriteRegistryValues

place_elsewhere : (q : Name) (p : RegistryPlace) (says : Says) (old : Option Entry) → IsNoKey q → same_name q (name_of_value p) ≡ false → left_at q (place_touches p says) old ≡ old
place_elsewhere q p Removes old k v = refl
place_elsewhere q p KeyAlone old k v = keys_elsewhere q p.root p.key old k
place_elsewhere q p Makes old k v = keys_elsewhere q p.root p.key old k
place_elsewhere q p MakesAndRemoves old k v = keys_elsewhere q p.root p.key old k
place_elsewhere q p (Writes text) old k v = set_in_key q (name_of_value p) (value_after p text) p.root p.key old k ∙ ap (λ b. cond b (value_after p text old) old) v

written_elsewhere : (w : World) (q : Name) → starts_with nat_eq q (codes "v/") ≡ false → starts_with nat_eq q (codes "k/") ≡ false → (r : Numbered RegistryRow) → Acts q (write_row w r) (λ old. old)
unfolding write_row
written_elsewhere w q v k r m ts e old =
    let read = bound (registry_meaning (lookups w) r) (λ meaning. unless (value_fault m r.number meaning) (Ok (meaning_touches meaning))) ts e in
    let fine = unrefused (value_fault m r.number read.value) (Ok (meaning_touches read.value)) ts read.rest in
    let p = read.value.place in
    ap (λ (ts : List (Touch Entry)). left_at q ts old) (sym (from_ok (meaning_touches read.value) ts fine.is))
    ∙ place_elsewhere q p read.value.says old (no_key q k) (no_value q v p.root p.key p.name)

pub only_values_and_keys_are_written : ChangesOnly (codes "v/" ∷ codes "k/" ∷ []) write_registry_values
unfolding write_registry_values
only_values_and_keys_are_written w m after q e =
    let v = first_isnt (starts_with nat_eq q (codes "v/")) _ e in
    let k = second_isnt (starts_with nat_eq q (codes "v/")) (starts_with nat_eq q (codes "k/")) e in
    ap (λ n. get n q) after.machine
    ∙ get-in_turn q (write_row w) (λ r old. old) (written_rows w) w.machine after.rows (written_elsewhere w q v k) after.touched
    ∙ alone (written_rows w) (get w.machine q)

-- ---- RemoveRegistryValues; its pruning goes by the first letter of names

goes_not : (guarded : Name → Bool) (held : List Name) (at : Path) (q : Name) → key_seat q ≡ Apart → goes_with_key guarded held at q ≡ false
unfolding goes_with_key
goes_not guarded held at q apart = ap (seat_goes_with_key guarded held at q) apart

taken_elsewhere : (guarded : Name → Bool) (held : List Name) (q : Name) (p : RegistryPlace) (says : Says) (old : Option Entry) → key_seat q ≡ Apart → same_name q (name_of_value p) ≡ false → left_at q (taken_at guarded p held says) old ≡ old
taken_elsewhere guarded held q p KeyAlone old apart v = refl
taken_elsewhere guarded held q p Makes old apart v = refl
taken_elsewhere guarded held q p Removes old apart v = unless_named (goes_with_key guarded held (place_of_key p) q) old None (goes_not guarded held (place_of_key p) q apart)
taken_elsewhere guarded held q p MakesAndRemoves old apart v = unless_named (goes_with_key guarded held (place_of_key p) q) old None (goes_not guarded held (place_of_key p) q apart)
taken_elsewhere guarded held q p (Writes text) old apart v = unless_guarded guarded q (name_of_value p) (value_less text) old ∙ unless_named (same_name q (name_of_value p)) old _ v

removed_elsewhere : (w : World) (q : Name) → key_seat q ≡ Apart → starts_with nat_eq q (codes "v/") ≡ false → (r : Numbered RegistryRow) → Acts q (remove_row w r) (λ old. old)
unfolding remove_row
removed_elsewhere w q apart v r m ts e old =
    let read = bound (registry_meaning (lookups w) r) (λ meaning. Ok (removed_touches (is_guarded w) meaning (keys m))) ts e in
    let p = read.value.place in
    ap (λ (ts : List (Touch Entry)). left_at q ts old) (sym (from_ok (removed_touches (is_guarded w) read.value (keys m)) ts read.rest))
    ∙ taken_elsewhere (is_guarded w) (keys m) q p read.value.says old apart (no_value q v p.root p.key p.name)

removal_elsewhere : (w : World) (q : Name) → key_seat q ≡ Apart → starts_with nat_eq q (codes "v/") ≡ false → (r : Numbered RemoveRegistryRow) → Acts q (removal_row w r) (λ old. old)
unfolding removal_row
removal_elsewhere w q apart v r m ts e old =
    let read = bound (removal_place (lookups w) r) (λ p. Ok (removal_touches p (keys m))) ts e in
    let p = read.value in
    ap (λ (ts : List (Touch Entry)). left_at q ts old) (sym (from_ok (removal_touches p (keys m)) ts read.rest))
    ∙ by_name p (keys m) (bytes_eq p.name (codes "-"))
  where
    by_name : (p : RegistryPlace) (held : List Name) (b : Bool) → left_at q (cond b (Clear (goes_with_key unguarded held (place_of_key p)) ∷ []) (Set (name_of_value p) (λ o. None) ∷ [])) old ≡ old
    by_name p held true = unless_named (goes_with_key unguarded held (place_of_key p) q) old None (goes_not unguarded held (place_of_key p) q apart)
    by_name p held false = unless_named (same_name q (name_of_value p)) old None (no_value q v p.root p.key p.name)

weaker : (q : Name) → starts_with nat_eq q (codes "v") ≡ false → starts_with nat_eq q (codes "v/") ≡ false
weaker [] e = refl
weaker (a ∷ q) e = ap (λ b. b && starts_with nat_eq q (codes "/")) (and_true (nat_eq 118 a) e)

pub only_values_and_keys_are_removed : ChangesOnly (codes "v" ∷ codes "k" ∷ []) remove_registry_values
only_values_and_keys_are_removed w m after q e =
    let v = first_isnt (starts_with nat_eq q (codes "v")) _ e in
    let k = second_isnt (starts_with nat_eq q (codes "v")) (starts_with nat_eq q (codes "k")) e in
    let apart = no_seat q k v in
    let parts = parts_of w m after in
    parts.after q
    ∙ unless_named (goes key_seat (keys parts.between) (touched_keys w) (kept_keys w) q) (get parts.between q) None (prunes_not (keys parts.between) (touched_keys w) (kept_keys w) q apart)
    ∙ ap (λ n. get n q) parts.is.machine
    ∙ get-in_turn q (removal_row w) (λ r old. old) (removal_rows w) (after_rows w.machine parts.is.rows) parts.is.more (removal_elsewhere w q apart (weaker q v)) parts.is.taken
    ∙ alone (removal_rows w) (get (after_rows w.machine parts.is.rows) q)
    ∙ get-in_turn q (remove_row w) (λ r old. old) (leaving_rows w) w.machine parts.is.rows (removed_elsewhere w q apart (weaker q v)) parts.is.touched
    ∙ alone (leaving_rows w) (get w.machine q)

-- ---- shortcuts

no_shortcut : (q : Name) → starts_with nat_eq q (codes "s/") ≡ false → (path : Text) → same_name q (shortcut_name path) ≡ false
unfolding shortcut_name
no_shortcut q isnt path = other_front (codes "s/") q (shortcut_name path) refl isnt

created_elsewhere : (w : World) (q : Name) → starts_with nat_eq q (codes "s/") ≡ false → starts_with nat_eq q (codes "d/") ≡ false → (r : Numbered ShortcutRow) → Acts q (λ m. created_touches w r) (λ old. old)
created_elsewhere w q s d r m ts e old =
    let made = made_of w r ts e in
    ap (λ (ts : List (Touch Entry)). left_at q ts old) (sym made.touches)
    ∙ set_in_folder q (shortcut_name made.path) (λ o. Some made.made) (up_to_last made.path) old (no_folder q d)
    ∙ unless_named (same_name q (shortcut_name made.path)) old _ (no_shortcut q s made.path)

pub only_shortcuts_and_folders_are_created : ChangesOnly (codes "s/" ∷ codes "d/" ∷ []) create_shortcuts
unfolding create_shortcuts
only_shortcuts_and_folders_are_created w m after q e =
    let s = first_isnt (starts_with nat_eq q (codes "s/")) _ e in
    let d = second_isnt (starts_with nat_eq q (codes "s/")) (starts_with nat_eq q (codes "d/")) e in
    ap (λ n. get n q) after.machine
    ∙ get-in_turn q (λ r m. created_touches w r) (λ r old. old) (coming_shortcuts w) w.machine after.rows (created_elsewhere w q s d) after.touched
    ∙ alone (coming_shortcuts w) (get w.machine q)

-- a phase that prunes folders behind rows that leave a name alone leaves it alone, too
pruned_elsewhere : (w : World) (m : Machine) (rows : List RowEffect) (touched : List Text) (touches : List Touches) (q : Name) → starts_with nat_eq q (codes "d/") ≡ false
    → by_rows w.machine (rows ++ prune_folders w touched ∷ []) ≡ Ok touches → m ≡ after_rows w.machine touches
    → ((front : List Touches) → by_rows w.machine rows ≡ Ok front → get (after_rows w.machine front) q ≡ get w.machine q) → get m q ≡ get w.machine q
pruned_elsewhere w m rows touched touches q d e is stays =
    let last = pruned_last w.machine rows (prune_folders w touched) touches e in
    let n = after_rows w.machine last.front in
    ap (λ k. get k q) is
    ∙ last.after q
    ∙ ap (λ (ts : List (Touch Entry)). left_at q ts (get n q)) (sym (what_prunes w touched n last.back last.second))
    ∙ pruning_stays w touched n q (get n q) d
    ∙ stays last.front last.first

unnamed : (q : Name) (name : Text → Name) → ((path : Text) → same_name q (name path) ≡ false) → (path : Option Text) (more : Bool) (old : Option Entry)
    → unless_taken (option_map_or (same_name q) (option_map name path) false && more) old ≡ old
unnamed q name apart None more old = refl
unnamed q name apart (Some path) more old = unless_named (same_name q (name path) && more) old None (ap (λ b. b && more) (apart path))

pub only_shortcuts_and_folders_are_removed : ChangesOnly (codes "s/" ∷ codes "d/" ∷ []) remove_shortcuts
unfolding remove_shortcuts
only_shortcuts_and_folders_are_removed w m after q e =
    let s = first_isnt (starts_with nat_eq q (codes "s/")) _ e in
    let d = second_isnt (starts_with nat_eq q (codes "s/")) (starts_with nat_eq q (codes "d/")) e in
    let rows = leaving_shortcuts w in
    pruned_elsewhere w m (map (λ r m. removed_shortcut w r) rows) (shortcut.touched_folders w) after.rows q d after.touched after.machine (λ front first.
    get-in_turn q (λ r m. removed_shortcut w r) (taken w q) rows w.machine front (removed_at w q) first
    ∙ unchanged (taken w q) rows (get w.machine q) (λ r old. unnamed q shortcut_name (no_shortcut q s) (shortcut_path w r.row) (not (is_guarded_shortcut w q)) old))

-- ---- folders

made_elsewhere : (w : World) (q : Name) → starts_with nat_eq q (codes "d/") ≡ false → (r : Numbered CreateFolderRow) → Acts q (made_folder w r) (λ old. old)
made_elsewhere w q d r m ts e old =
    ap (λ (ts : List (Touch Entry)). left_at q ts old) (sym (from_ok (option_map_or folder_with_parents (folder_of_row w r) []) ts e)) ∙ at_row (folder_of_row w r)
  where
    at_row : (o : Option Folder) → left_at q (option_map_or folder_with_parents o []) old ≡ old
    at_row None = refl
    at_row (Some f) = folders_elsewhere q f old (no_folder q d)

pub only_folders_are_made : ChangesOnly (codes "d/" ∷ []) create_folders
unfolding create_folders
only_folders_are_made w m after q e =
    let d = first_isnt (starts_with nat_eq q (codes "d/")) _ e in
    ap (λ n. get n q) after.machine
    ∙ get-in_turn q (made_folder w) (λ r old. old) (folder_rows (comes w) w) w.machine after.rows (made_elsewhere w q d) after.touched
    ∙ alone (folder_rows (comes w) w) (get w.machine q)

pub only_folders_are_pruned : ChangesOnly (codes "d/" ∷ []) remove_folders
unfolding remove_folders
only_folders_are_pruned w m after q e =
    pruned_elsewhere w m [] (leaving_folders w) after.rows q (first_isnt (starts_with nat_eq q (codes "d/")) _ e) after.touched after.machine
    (λ front first. ap (λ (ts : List Touches). get (after_rows w.machine ts) q) (sym (from_ok [] front first)))

-- ---- files

no_file : (q : Name) → starts_with nat_eq q (codes "f/") ≡ false → (path : Text) → same_name q (file_name path) ≡ false
unfolding file_name
no_file q isnt path = other_front (codes "f/") q (file_name path) refl isnt

lies_nowhere : (folder : Folder) (pattern : Text) (q : Name) → starts_with nat_eq q (codes "f/") ≡ false → lies_in folder pattern q ≡ false
lies_nowhere folder pattern q f = ap (λ b. b && bytes_eq (up_to_last (drop 2 q)) (folded folder) && has_pattern pattern (last_part (drop 2 q))) f

unmatched : (w : World) (q : Name) (r : RemoveFileRow) (more : Bool) (old : Option Entry) → starts_with nat_eq q (codes "f/") ≡ false → unless_taken (is_matched_by w r q && more) old ≡ old
unmatched w q r more old f = at_folder (option_flatten (folder_of_file_row w r))
  where
    at_name : (folder : Folder) (name : Option Text) → unless_taken (option_map_or (λ name. lies_in folder (long_name name) q) name false && more) old ≡ old
    at_name folder None = refl
    at_name folder (Some name) = unless_named (lies_in folder (long_name name) q && more) old None (ap (λ b. b && more) (lies_nowhere folder (long_name name) q f))

    at_folder : (folder : Option Folder) → unless_taken (option_map_or (λ (folder : Folder). option_map_or (λ name. lies_in folder (long_name name) q) r.file_name false) folder false && more) old ≡ old
    at_folder None = refl
    at_folder (Some folder) = at_name folder r.file_name

pub only_files_and_folders_are_removed : ChangesOnly (codes "f/" ∷ codes "d/" ∷ []) remove_files
unfolding remove_files
only_files_and_folders_are_removed w m after q e =
    let f = first_isnt (starts_with nat_eq q (codes "f/")) _ e in
    let d = second_isnt (starts_with nat_eq q (codes "f/")) (starts_with nat_eq q (codes "d/")) e in
    pruned_elsewhere w m (rows_of_files w ++ rows_of_patterns w) (file.touched_folders w) after.rows q d after.touched after.machine (λ front first.
    rows_leave w q front first
    ∙ unchanged (pattern_step w q) (rows_in_force w) (in_turn (file_step w q) (leaving_files w) (get w.machine q)) (λ r old. unmatched w q r.row (is_local w r.row.component || not (is_guarded_file w q)) old f)
    ∙ unchanged (file_step w q) (leaving_files w) (get w.machine q) (λ r old. unnamed q file_name (no_file q f) (path_of_row w r.row) (not (is_guarded_file w q)) old))

file_elsewhere : (q : Name) (entry : FileEntry) (old : Option Entry) → starts_with nat_eq q (codes "f/") ≡ false → starts_with nat_eq q (codes "d/") ≡ false → left_at q (file_with_parents entry) old ≡ old
unfolding file_with_parents
file_elsewhere q entry old f d =
    set_in_folder q (file_name entry.shown) (λ o. Some (entry_of.File entry)) (up_to_last entry.shown) old (no_folder q d)
    ∙ unless_named (same_name q (file_name entry.shown)) old _ (no_file q f entry.shown)

installed_elsewhere : (w : World) (q : Name) → starts_with nat_eq q (codes "f/") ≡ false → starts_with nat_eq q (codes "d/") ≡ false → (p : Placed) → Acts q (installed_row w p) (λ old. old)
installed_elsewhere w q f d p m ts e old = by_decision (is_written w p.row) e
  where
    by_decision : (b : Bool) → cond b (source_bytes w p.row >>= written w p) (Ok []) ≡ Ok ts → left_at q ts old ≡ old
    by_decision true e =
        let read = bound (source_bytes w p.row) (written w p) ts e in
        ap (λ (ts : List (Touch Entry)). left_at q ts old) (sym (from_ok (file_with_parents (installed_file w p read.value)) ts read.rest))
        ∙ file_elsewhere q (installed_file w p read.value) old f d
    by_decision false e = ap (λ (ts : List (Touch Entry)). left_at q ts old) (sym (from_ok [] ts e))

pub only_files_and_folders_are_installed : ChangesOnly (codes "f/" ∷ codes "d/" ∷ []) install_files
unfolding install_files
only_files_and_folders_are_installed w m after q e = placed_rows (all_placed w) refl
  where
    placed_rows : (r : Result (List Placed) Fault) → all_placed w ≡ r → get m q ≡ get w.machine q
    placed_rows (Err fault) is = refused (ap (λ r. (r >>= installed_rows w) >>= by_rows w.machine) (sym is) ∙ after.touched)
      where
        refused : ◌≡◌ {A = Result (List Touches) Fault} (Err fault) (Ok after.rows) → get m q ≡ get w.machine q
        refused e = cc
    placed_rows (Ok rows) is =
        let f = first_isnt (starts_with nat_eq q (codes "f/")) _ e in
        let d = second_isnt (starts_with nat_eq q (codes "f/")) (starts_with nat_eq q (codes "d/")) e in
        let fine = accepted w rows after.rows is after.touched in
        ap (λ n. get n q) after.machine
        ∙ get-in_turn q (installed_row w) (λ p old. old) rows w.machine after.rows (installed_elsewhere w q f d) fine.is
        ∙ alone rows (get w.machine q)

copied_elsewhere : (w : World) (q : Name) → starts_with nat_eq q (codes "f/") ≡ false → starts_with nat_eq q (codes "d/") ≡ false → (r : Numbered DuplicateFileRow) → Acts q (copied_row w r) (λ old. old)
copied_elsewhere w q f d r m ts e old = at_path (copy_path w r.row) e
  where
    nothing : fine [] ≡ Ok ts → left_at q ts old ≡ old
    nothing e = ap (λ (ts : List (Touch Entry)). left_at q ts old) (sym (from_ok [] ts e))

    at_file : (at original : Text) (o : Option FileEntry) → fine (copies w at original o) ≡ Ok ts → left_at q ts old ≡ old
    at_file at original None e = nothing e
    at_file at original (Some entry) e = by_same (same_name (folded at) (folded original)) e
      where
        by_same : (b : Bool) → fine (cond b [] (file_with_parents (copied_file w at entry))) ≡ Ok ts → left_at q ts old ≡ old
        by_same true e = nothing e
        by_same false e =
            ap (λ (ts : List (Touch Entry)). left_at q ts old) (sym (from_ok (file_with_parents (copied_file w at entry)) ts e))
            ∙ file_elsewhere q (copied_file w at entry) old f d

    at_original : (at : Text) (original : Option Text) → (right_path (codes "DuplicateFile") r.number original >>= λ o. Ok (copies w at o (file_at m o))) ≡ Ok ts → left_at q ts old ≡ old
    at_original at None e = cc
    at_original at (Some o) e = at_file at o (file_at m o) e

    at_path : (at : Option (Option Text)) → with_path r at (λ p. right_path (codes "DuplicateFile") r.number (original_path w r.row) >>= λ o. Ok (copies w p o (file_at m o))) ≡ Ok ts → left_at q ts old ≡ old
    at_path None e = nothing e
    at_path (Some None) e = cc
    at_path (Some (Some p)) e = at_original p (original_path w r.row) e

pub only_files_and_folders_are_copied : ChangesOnly (codes "f/" ∷ codes "d/" ∷ []) duplicate_files
unfolding duplicate_files
only_files_and_folders_are_copied w m after q e =
    let f = first_isnt (starts_with nat_eq q (codes "f/")) _ e in
    let d = second_isnt (starts_with nat_eq q (codes "f/")) (starts_with nat_eq q (codes "d/")) e in
    ap (λ n. get n q) after.machine
    ∙ get-in_turn q (copied_row w) (λ r old. old) (copy_rows (comes w) w) w.machine after.rows (copied_elsewhere w q f d) after.touched
    ∙ alone (copy_rows (comes w) w) (get w.machine q)

pub only_copies_and_folders_are_removed : ChangesOnly (codes "f/" ∷ codes "d/" ∷ []) remove_duplicate_files
unfolding remove_duplicate_files
only_copies_and_folders_are_removed w m after q e =
    let f = first_isnt (starts_with nat_eq q (codes "f/")) _ e in
    let d = second_isnt (starts_with nat_eq q (codes "f/")) (starts_with nat_eq q (codes "d/")) e in
    let rows = copy_rows (leaves w) w in
    pruned_elsewhere w m (map (removed_copy w) rows) (copy.touched_folders w) after.rows q d after.touched after.machine (λ front first.
    get-in_turn q (removed_copy w) (copy_step w q) rows w.machine front (copy_acts w q) first
    ∙ unchanged (copy_step w q) rows (get w.machine q) (λ r old. unnamed q file_name (no_file q f) (option_flatten (copy_path w r.row)) (not (is_guarded_file w q)) old))

-- ---- the product and variables

pub only_the_product_is_published : ChangesOnly (codes "p/" ∷ []) publish_product
unfolding product_name
only_the_product_is_published w m after q e =
    others_stay w m after q (other_front (codes "p/") q (product_name (product_code w.given.rows)) refl (first_isnt (starts_with nat_eq q (codes "p/")) _ e))

no_variable : (q : Name) → starts_with nat_eq q (codes "n/") ≡ false → (name : Text) → same_name q (named_variable name) ≡ false
unfolding named_variable variable_name
no_variable q isnt name = other_front (codes "n/") q (named_variable name) refl isnt

pub only_variables_are_written : ChangesOnly (codes "n/" ∷ []) write_environment_strings
only_variables_are_written w m after q e =
    variables_are_written w m after q
    ∙ unchanged (variable_by w q) (coming_variables w) (get w.machine q) (λ r old. unless_named (same_name q (named_variable r.row.name)) old _ (no_variable q (first_isnt (starts_with nat_eq q (codes "n/")) _ e) r.row.name))

pub only_variables_are_removed : ChangesOnly (codes "n/" ∷ []) remove_environment_strings
only_variables_are_removed w m after q e =
    variables_are_removed w m after q
    ∙ unchanged (variable_less_by w q) (removing_rows w) (get w.machine q) (λ r old. unless_named (same_name q (named_variable r.row.name)) old _ (no_variable q (first_isnt (starts_with nat_eq q (codes "n/")) _ e) r.row.name))

-- ---- all phases

pub phases_change_only : PhasesChangeOnly
phases_change_only = record {
  clients_and_counts = only_clients_and_counts;
  product = only_the_product_is_published;
  written_values = only_values_and_keys_are_written;
  removed_values = only_values_and_keys_are_removed;
  created_shortcuts = only_shortcuts_and_folders_are_created;
  removed_shortcuts = only_shortcuts_and_folders_are_removed;
  written_variables = only_variables_are_written;
  removed_variables = only_variables_are_removed;
  installed_files = only_files_and_folders_are_installed;
  removed_files = only_files_and_folders_are_removed;
  copied_files = only_files_and_folders_are_copied;
  removed_copies = only_copies_and_folders_are_removed;
  created_folders = only_folders_are_made;
  removed_folders = only_folders_are_pruned;
}
