-- Values go by rows alone.
use Rattle.std.proofs.Common.{◌≡◌, ℕ, Bool, true, false, cond, ◌||◌, List, [], ◌∷◌, map, Option, Some, None, refl, sym, ap, subst, ◌∙◌}
use Rattle.std.specs.Prelude.{◌+◌, ◌&&◌, not, min, nat_eq, codes, option_map, Result, Ok, Err}
use Rattle.std.specs.Option.{option_map_or}
use Rattle.std.specs.List.{starts_with, AllByRecursion}
use Rattle.std.specs.Result.{result_ok}
use Rattle.std.specs.Str.{bytes_eq}
use Rattle.std.specs.FinMap.{get}
use Rattle.mi_text.specs.Maps.{Name, same_name}
use Rattle.mi_text.proofs.MapLemmas.{from_same}
use Rattle.mi_base.specs.declared.answers.Fault.{Fault}
use Rattle.mi_base.specs.declared.entry.Entry.{Entry}
use Rattle.mi_base.specs.declared.entry.Entry.TheVariants as entry
use Rattle.mi_base.specs.declared.entry.RegValue.{RegValue}
use Rattle.mi_base.specs.declared.entry.RegValue.TheVariants as value
use Rattle.mi_base.specs.Machine.{Machine}
use Rattle.mi_base.specs.Names.{value_name}
use Rattle.mi_regval.specs.declared.error.ValueFault.{ValueFault}
use Rattle.mi_regval.specs.Values.{value_of}
use Rattle.mi_schema.specs.TableRows.{Numbered}
use Rattle.mi_schema.specs.declared.typed_rows.ComponentRow.{ComponentRow}
use Rattle.mi_schema.specs.declared.typed_rows.RegistryRow.{RegistryRow}
use Rattle.mi_schema.specs.declared.typed_rows.RemoveRegistryRow.{RemoveRegistryRow}
use Rattle.mi_changes.specs.Touches.{Touch, left_at, after_touches}
use Rattle.mi_changes.proofs.TouchLemmas.{get-after_touches}
use Rattle.mi_model.specs.Texts.{Text}
use Rattle.mi_model.specs.World.{World, Action, MakeLocal, MakeAbsent}
use Rattle.mi_model.specs.Asked.{leaves, lookups}
use Rattle.mi_model.specs.States.{is_present}
use Rattle.mi_model.specs.ComponentRows.{action_in}
use Rattle.mi_model.specs.ClientRows.{recorded_path}
use Rattle.mi_model.specs.SharedCounts.{count_name, count_entry, count_in, lowered}
use Rattle.mi_model.specs.ProcessComponents.{process_components}
use Rattle.mi_model.specs.Prune.{key_seat}
use Rattle.mi_model.specs.Refusals.{unless}
use Rattle.mi_model.specs.PhaseRows.{Touches, after_rows, by_rows}
use Rattle.mi_model.specs.RegistryRows.{RegistryPlace, RegistryMeaning, Says, KeyAlone, Makes, Removes, MakesAndRemoves, Writes, name_of_value, removal_place, registry_meaning}
use Rattle.mi_model.specs.RegistryGuards.{unguarded}
use Rattle.mi_model.specs.CountRows.{is_guarded}
use Rattle.mi_model.specs.WriteRegistryValues.{written_rows, old_value, value_entry, value_after, read_fault, written_fault, meaning_touches, value_fault, write_row, write_registry_values}
use Rattle.mi_model.specs.RemoveRegistryValues.{leaving_rows, removal_rows, value_less, remove_registry_values}
use Rattle.mi_model_laws.specs.PhaseLaws.{IsAfter, in_turn}
use Rattle.mi_model_laws.specs.RecordLaws.{counted_components, count_of, count_by, is_count, leads_to_counts}
use Rattle.mi_model_laws.specs.RegistryLaws.{goes_with, says_removed, removed_by, taken_by, says_written, written_by, values_after_remove}
use Rattle.mi_model_laws.proofs.OnlyLemmas.{phases_change_only}
use Rattle.mi_model_laws.specs.OnlyLaws.{files_and_folders, shortcuts_and_folders}
use Rattle.mi_model_laws.proofs.RowLemmas.{from_ok, bound, unrefused, behind, with_first}
use Rattle.mi_model_laws.proofs.CountLemmas.{counts_are_kept, others_are_kept}
use Rattle.mi_model_laws.proofs.RemovalLemmas.{values_are_removed}
use Rattle.mi_model_laws.proofs.WriteLemmas.{value_acts}
use Rattle.mi_laws.specs.ValueLaws.{says_taken, is_taken_by, is_named_by_leaving, is_removed_by, is_named_by_removal, Goes, KeepsValues, other_phases, is_count_of_leaving, ValuesGoByRows}
use Rattle.mi_laws.proofs.StandLemmas.{Stands, what_stands, left_none, right_none, else_true, stays, no_value_in}

-- ---- RemoveRegistryValues

unless_gone : (goes : Bool) (e : Entry) → goes ≡ false → Stands (cond goes None (Some e))
unless_gone true e none = cc
unless_gone false e none = tt

unless_less : (same guarded : Bool) (new : Option Entry) (e : Entry) → (same && not guarded) ≡ false → Stands (cond same (cond guarded (Some e) new) (Some e))
unless_less true true new e none = tt
unless_less true false new e none = cc
unless_less false guarded new e none = tt

says_stands : (guarded : Name → Bool) (q : Name) (p : RegistryPlace) (says : Says) (e : Entry) → says_taken guarded q p says ≡ false → Stands (says_removed guarded q p says (Some e))
says_stands guarded q p KeyAlone e none = tt
says_stands guarded q p Makes e none = tt
says_stands guarded q p Removes e none = unless_gone (goes_with guarded p q) e none
says_stands guarded q p MakesAndRemoves e none = unless_gone (goes_with guarded p q) e none
says_stands guarded q p (Writes text) e none = unless_less (same_name q (name_of_value p)) (guarded q) (value_less text (Some e)) e none

row_stands : (guarded : Name → Bool) (q : Name) (r : Result RegistryMeaning Fault) → is_taken_by guarded q r ≡ false → (e : Entry) → Stands (removed_by guarded q r (Some e))
row_stands guarded q (Ok r) none e = says_stands guarded q r.place r.says e none
row_stands guarded q (Err fault) none e = tt

removal_stands : (q : Name) (p : Result RegistryPlace Fault) → is_removed_by q p ≡ false → (e : Entry) → Stands (taken_by q p (Some e))
removal_stands q (Ok p) none e = by_name (bytes_eq p.name (codes "-")) none
  where
    by_name : (b : Bool) → cond b (goes_with unguarded p q) (same_name q (name_of_value p)) ≡ false
        → Stands (cond b (cond (goes_with unguarded p q) None (Some e)) (cond (same_name q (name_of_value p)) None (Some e)))
    by_name true n = unless_gone (goes_with unguarded p q) e n
    by_name false n = unless_gone (same_name q (name_of_value p)) e n
removal_stands q (Err fault) none e = tt

unnamed_stands : (w : World) (q : Name) (e : Entry) → (is_named_by_leaving w q || is_named_by_removal w q) ≡ false → Stands (values_after_remove w q (Some e))
unnamed_stands w q e none =
    stays (λ (r : Numbered RemoveRegistryRow). taken_by q (removal_place (lookups w) r)) (λ r. is_removed_by q (removal_place (lookups w) r)) (λ r. removal_stands q (removal_place (lookups w) r))
    (removal_rows w) _
    (stays (λ (r : Numbered RegistryRow). removed_by (is_guarded w) q (registry_meaning (lookups w) r)) (λ r. is_taken_by (is_guarded w) q (registry_meaning (lookups w) r)) (λ r. row_stands (is_guarded w) q (registry_meaning (lookups w) r))
    (leaving_rows w) (Some e) tt (left_none (is_named_by_leaving w q) (is_named_by_removal w q) none))
    (right_none (is_named_by_leaving w q) (is_named_by_removal w q) none)

removed_by_rows : (w : World) (root : ℕ) (key name : Text) → Goes remove_registry_values w (value_name root key name) → (is_named_by_leaving w (value_name root key name) || is_named_by_removal w (value_name root key name)) ≡ true
removed_by_rows w root key name g =
    let q = value_name root key name in
    let gone : values_after_remove w q (Some g.entry) ≡ None = ap (values_after_remove w q) (sym g.stood) ∙ sym (values_are_removed w g.machine g.after root key name) ∙ g.gone in
    else_true (is_named_by_leaving w q || is_named_by_removal w q) (λ none. subst Stands gone (unnamed_stands w q g.entry none))

-- ---- WriteRegistryValues

ok_stands : (p : RegistryPlace) (row : ℕ) (read : Result RegValue ValueFault) → read_fault p row read ≡ None → Stands (option_map (value_entry p) (result_ok read))
ok_stands p row (Ok v) none = tt
ok_stands p row (Err fault) none = cc

value_stands : (m : Machine) (row : ℕ) (q : Name) (p : RegistryPlace) (text : Text) (e : Entry) → get m q ≡ Some e → read_fault p row (value_of text (old_value (get m (name_of_value p)))) ≡ None
    → Stands (cond (same_name q (name_of_value p)) (value_after p text (Some e)) (Some e))
value_stands m row q p text e there none = elim (same_name q (name_of_value p)) as (λ b. same_name q (name_of_value p) ≡ b → Stands (cond b (value_after p text (Some e)) (Some e))) [
  | true ↦ λ same. ok_stands p row (value_of text (old_value (Some e)))
      (ap (λ (o : Option Entry). read_fault p row (value_of text (old_value o))) (sym there ∙ ap (get m) (from_same q (name_of_value p) same)) ∙ none)
  | false ↦ λ same. tt
] refl

written_stands : (m : Machine) (row : ℕ) (q : Name) (p : RegistryPlace) (says : Says) (e : Entry) → get m q ≡ Some e → written_fault m row p says ≡ None → Stands (says_written q p says (Some e))
written_stands m row q p KeyAlone e there none = tt
written_stands m row q p Makes e there none = tt
written_stands m row q p Removes e there none = tt
written_stands m row q p MakesAndRemoves e there none = tt
written_stands m row q p (Writes text) e there none = value_stands m row q p text e there none

row_keeps : (w : World) (root : ℕ) (key name : Text) (r : Numbered RegistryRow) (m : Machine) (ts : List (Touch Entry)) → write_row w r m ≡ Ok ts
    → Stands (get m (value_name root key name)) → Stands (get (after_touches m ts) (value_name root key name))
unfolding write_row
row_keeps w root key name r m ts e s =
    let q = value_name root key name in
    let there = what_stands (get m q) s in
    let read = bound (registry_meaning (lookups w) r) (λ meaning. unless (value_fault m r.number meaning) (Ok (meaning_touches meaning))) ts e in
    let fine = unrefused (value_fault m r.number read.value) (Ok (meaning_touches read.value)) ts read.rest in
    subst Stands
    (sym (get-after_touches m ts q ∙ ap (left_at q ts) there.1 ∙ value_acts w root key name r m ts e (Some there.0) ∙ ap (λ r. written_by q r (Some there.0)) read.is))
    (written_stands m r.number q read.value.place read.value.says there.0 there.1 fine.none)

rows_keep : (w : World) (root : ℕ) (key name : Text) (rows : List (Numbered RegistryRow)) (m : Machine) (touches : List Touches) → by_rows m (map (write_row w) rows) ≡ Ok touches
    → Stands (get m (value_name root key name)) → Stands (get (after_rows m touches) (value_name root key name))
rows_keep w root key name [] m touches e s = subst (λ (ts : List Touches). Stands (get (after_rows m ts) (value_name root key name))) (from_ok [] touches e) s
rows_keep w root key name (r ∷ rows) m touches e s =
    let one = bound (write_row w r m) (behind m (map (write_row w) rows)) touches e in
    let rest = bound (by_rows (after_touches m one.value) (map (write_row w) rows)) (with_first one.value) touches one.rest in
    subst (λ (ts : List Touches). Stands (get (after_rows m ts) (value_name root key name))) (from_ok (one.value ∷ rest.value) touches rest.rest)
    (rows_keep w root key name rows (after_touches m one.value) rest.value rest.is (row_keeps w root key name r m one.value one.is s))

none_is_written_away : (w : World) (root : ℕ) (key name : Text) → ¬ Goes write_registry_values w (value_name root key name)
unfolding write_registry_values
none_is_written_away w root key name g =
    let q = value_name root key name in
    subst Stands (ap (λ (m : Machine). get m q) (sym g.after.machine) ∙ g.gone)
    (rows_keep w root key name (written_rows w) w.machine g.after.rows g.after.touched (subst Stands (sym g.stood) tt))

-- ---- ProcessComponents

-- a value that is lowered stands
lowered_stands : (e : Entry) → Stands (lowered (Some e))
lowered_stands (entry.File f) = tt
lowered_stands (entry.Folder path) = tt
lowered_stands (entry.Value key (value.Text t)) = tt
lowered_stands (entry.Value key (value.Expand t)) = tt
lowered_stands (entry.Value key (value.Int n)) = tt
lowered_stands (entry.Value key (value.Binary b)) = tt
lowered_stands (entry.Value key (value.List items)) = tt
lowered_stands (entry.Key root key) = tt
lowered_stands (entry.Shortcut s) = tt
lowered_stands (entry.Variable v) = tt
lowered_stands (entry.Client c) = tt
lowered_stands (entry.Product p) = tt
lowered_stands (entry.System property value) = tt

taken_stands : (w : World) (q : Name) (path : Text) (leaving : Bool) (e : Entry) → (leaving && same_name q (count_name path) && not (is_guarded w q)) ≡ false
    → Stands (cond (same_name q (count_name path)) (cond leaving (cond (is_guarded w (count_name path)) (Some e) None) (lowered (Some e))) (Some e))
taken_stands w q path leaving e none = elim (same_name q (count_name path)) as (λ b. same_name q (count_name path) ≡ b → (leaving && b && not (is_guarded w q)) ≡ false
    → Stands (cond b (cond leaving (cond (is_guarded w (count_name path)) (Some e) None) (lowered (Some e))) (Some e))) [
      | true ↦ λ same none. by leaving (is_guarded w (count_name path)) (ap (λ (n : Name). leaving && true && not (is_guarded w n)) (sym (from_same q (count_name path) same)) ∙ none)
      | false ↦ λ same none. tt
    ] refl none
  where
    by : (l g : Bool) → (l && true && not g) ≡ false → Stands (cond l (cond g (Some e) None) (lowered (Some e)))
    by true true none = tt
    by true false none = cc
    by false g none = lowered_stands e

raised_stands : (same present : Bool) (x e : Entry) → Stands (cond same (cond present (Some e) (Some x)) (Some e))
raised_stands true true x e = tt
raised_stands true false x e = tt
raised_stands false present x e = tt

count_stands : (w : World) (q : Name) (c : ComponentRow) (r : Result Text Fault) (action : Option Action) (e : Entry)
    → (leaves w c.component && option_map_or (λ path. same_name q (count_name path)) (result_ok r) false && not (is_guarded w q)) ≡ false
    → Stands (option_map_or (λ (a : Action). count_of w c q a r (Some e)) action (Some e))
count_stands w q c r None e none = tt
count_stands w q c (Err fault) (Some a) e none = tt
count_stands w q c (Ok path) (Some MakeLocal) e none = raised_stands (same_name q (count_name path)) (is_present w.given c) (count_entry path (min (count_in (Some e) + 1) 4294967295)) e
count_stands w q c (Ok path) (Some MakeAbsent) e none = taken_stands w q path (leaves w c.component) e none

counted_by_leaving : (w : World) (root : ℕ) (key name : Text) → Goes process_components w (value_name root key name) → is_count_of_leaving w (value_name root key name) ≡ true
counted_by_leaving w root key name g =
    let q = value_name root key name in
    let gone : in_turn (count_by w q) (counted_components w) (Some g.entry) ≡ None =
    ap (in_turn (count_by w q) (counted_components w)) (sym g.stood) ∙ sym (counts_are_kept w g.machine g.after root key name) ∙ g.gone in
    else_true (is_count_of_leaving w q) (λ none. subst Stands gone
    (stays (count_by w q) (λ (c : Numbered ComponentRow). leaves w c.row.component && option_map_or (λ path. same_name q (count_name path)) (result_ok (recorded_path w c.row)) false && not (is_guarded w q))
    (λ (c : Numbered ComponentRow) n e. count_stands w q c.row (recorded_path w c.row) (action_in w c.row.component) e n) (counted_components w) (Some g.entry) tt none))

value_is_no_client : (root : ℕ) (key name : Text) → starts_with nat_eq (value_name root key name) (codes "c/") ≡ false
unfolding value_name
value_is_no_client root key name = refl

leads_nowhere : (root : ℕ) (key name : Text) → leads_to_counts (key_seat (value_name root key name)) ≡ false
unfolding value_name
leads_nowhere root key name = refl

uncounted_stays : (w : World) (m : Machine) → IsAfter process_components w m → (root : ℕ) (key name : Text) → is_count w (value_name root key name) ≡ false → get m (value_name root key name) ≡ get w.machine (value_name root key name)
uncounted_stays w m after root key name none = others_are_kept w m after (value_name root key name) (value_is_no_client root key name) none (leads_nowhere root key name)

-- ---- the other phases

others_keep : AllByRecursion KeepsValues other_phases
unfolding value_name
others_keep = (
  no_value_in shortcuts_and_folders _ phases_change_only.removed_shortcuts (λ root key name. refl),
  (
    no_value_in (codes "n/" ∷ []) _ phases_change_only.removed_variables (λ root key name. refl),
    (
      no_value_in files_and_folders _ phases_change_only.removed_copies (λ root key name. refl),
      (
        no_value_in files_and_folders _ phases_change_only.removed_files (λ root key name. refl),
        (
          no_value_in (codes "d/" ∷ []) _ phases_change_only.removed_folders (λ root key name. refl),
          (
            no_value_in (codes "d/" ∷ []) _ phases_change_only.created_folders (λ root key name. refl),
            (
              no_value_in files_and_folders _ phases_change_only.installed_files (λ root key name. refl),
              (
                no_value_in files_and_folders _ phases_change_only.copied_files (λ root key name. refl),
                (
                  no_value_in shortcuts_and_folders _ phases_change_only.created_shortcuts (λ root key name. refl),
                  (
                    no_value_in (codes "n/" ∷ []) _ phases_change_only.written_variables (λ root key name. refl),
                    (
                      no_value_in (codes "p/" ∷ []) _ phases_change_only.product (λ root key name. refl),
                      tt,
                    ),
                  ),
                ),
              ),
            ),
          ),
        ),
      ),
    ),
  ),
)

pub values_go_by_rows : ValuesGoByRows
values_go_by_rows = record { removed = removed_by_rows; written = none_is_written_away; counted = counted_by_leaving; uncounted = uncounted_stays; others = others_keep }
