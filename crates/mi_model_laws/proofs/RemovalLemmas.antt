-- The values and keys that RemoveRegistryValues leaves.
use Rattle.std.proofs.Common.{◌≡◌, Bool, true, false, cond, List, [], ◌∷◌, ◌++◌, map, Option, None, refl, sym, ap, ◌∙◌}
use Rattle.std.specs.Prelude.{ℕ, codes, Ok}
use Rattle.std.specs.Str.{bytes_eq}
use Rattle.std.specs.FinMap.{get, keys}
use Rattle.mi_text.specs.Maps.{Name, same_name}
use Rattle.mi_base.specs.declared.entry.Entry.{Entry}
use Rattle.mi_base.specs.Machine.{Machine}
use Rattle.mi_base.specs.Names.{key_name, value_name}
use Rattle.mi_schema.specs.TableRows.{Numbered}
use Rattle.mi_schema.specs.declared.typed_rows.RegistryRow.{RegistryRow}
use Rattle.mi_schema.specs.declared.typed_rows.RemoveRegistryRow.{RemoveRegistryRow}
use Rattle.mi_changes.specs.Touches.{Touch, Set, Clear, left_at}
use Rattle.mi_model.specs.Texts.{Text}
use Rattle.mi_model.specs.World.{World}
use Rattle.mi_model.specs.Asked.{lookups}
use Rattle.mi_model.specs.PhaseRows.{after_rows}
use Rattle.mi_model.specs.Prune.{Path, goes, key_seat}
use Rattle.mi_model.specs.RegistryRows.{RegistryPlace, Says, KeyAlone, Makes, Removes, MakesAndRemoves, Writes, name_of_value, removal_place, registry_meaning}
use Rattle.mi_model.specs.RegistryGuards.{unguarded, goes_with_key, place_of_key, kept_keys, prune_keys}
use Rattle.mi_model.specs.CountRows.{is_guarded}
use Rattle.mi_model.specs.RemoveRegistryValues.{leaving_rows, removal_rows, value_less, taken_at, removed_touches, removal_touches, touched_keys, remove_row, removal_row, remove_registry_values}
use Rattle.mi_model_laws.specs.PhaseLaws.{IsAfter, in_turn}
use Rattle.mi_model_laws.specs.RegistryLaws.{goes_with, says_removed, removed_by, taken_by, values_after_remove, IsBeforePruning}
use Rattle.mi_model_laws.proofs.RowLemmas.{from_ok, bound, parted, after-append, pruned_last, Acts, get-in_turn, unless_guarded}

-- ---- rows at a value

-- a value goes with a key whatever else is held
whatever_held : (guarded : Name → Bool) (held : List Name) (at : Path) (root : ℕ) (key name : Text) → goes_with_key guarded held at (value_name root key name) ≡ goes_with_key guarded [] at (value_name root key name)
unfolding goes_with_key value_name
whatever_held guarded held at root key name = refl

with_key : (guarded : Name → Bool) (held : List Name) (p : RegistryPlace) (root : ℕ) (key name : Text) (old : Option Entry)
    → cond (goes_with_key guarded held (place_of_key p) (value_name root key name)) None old ≡ cond (goes_with guarded p (value_name root key name)) None old
with_key guarded held p root key name old = ap (λ b. cond b None old) (whatever_held guarded held (place_of_key p) root key name)

value_at : (guarded : Name → Bool) (held : List Name) (root : ℕ) (key name : Text) (p : RegistryPlace) (says : Says) (old : Option Entry)
    → left_at (value_name root key name) (taken_at guarded p held says) old ≡ says_removed guarded (value_name root key name) p says old
value_at guarded held root key name p KeyAlone old = refl
value_at guarded held root key name p Makes old = refl
value_at guarded held root key name p Removes old = with_key guarded held p root key name old
value_at guarded held root key name p MakesAndRemoves old = with_key guarded held p root key name old
value_at guarded held root key name p (Writes text) old = unless_guarded guarded (value_name root key name) (name_of_value p) (value_less text) old

value_removed : (w : World) (root : ℕ) (key name : Text) (r : Numbered RegistryRow) → Acts (value_name root key name) (remove_row w r) (removed_by (is_guarded w) (value_name root key name) (registry_meaning (lookups w) r))
unfolding remove_row
value_removed w root key name r m ts e old =
    let q = value_name root key name in
    let read = bound (registry_meaning (lookups w) r) (λ meaning. Ok (removed_touches (is_guarded w) meaning (keys m))) ts e in
    ap (λ (ts : List (Touch Entry)). left_at q ts old) (sym (from_ok (removed_touches (is_guarded w) read.value (keys m)) ts read.rest))
    ∙ value_at (is_guarded w) (keys m) root key name read.value.place read.value.says old
    ∙ ap (λ r. removed_by (is_guarded w) q r old) (sym read.is)

taken_value : (root : ℕ) (key name : Text) (p : RegistryPlace) (held : List Name) (old : Option Entry) → left_at (value_name root key name) (removal_touches p held) old ≡ taken_by (value_name root key name) (Ok p) old
taken_value root key name p held old = by_name (bytes_eq p.name (codes "-"))
  where
    q : Name
    q = value_name root key name

    by_name : (b : Bool) → left_at q (cond b (Clear (goes_with_key unguarded held (place_of_key p)) ∷ []) (Set (name_of_value p) (λ o. None) ∷ [])) old
        ≡ cond b (cond (goes_with unguarded p q) None old) (cond (same_name q (name_of_value p)) None old)
    by_name true = with_key unguarded held p root key name old
    by_name false = refl

value_taken : (w : World) (root : ℕ) (key name : Text) (r : Numbered RemoveRegistryRow) → Acts (value_name root key name) (removal_row w r) (taken_by (value_name root key name) (removal_place (lookups w) r))
unfolding removal_row
value_taken w root key name r m ts e old =
    let q = value_name root key name in
    let read = bound (removal_place (lookups w) r) (λ p. Ok (removal_touches p (keys m))) ts e in
    ap (λ (ts : List (Touch Entry)). left_at q ts old) (sym (from_ok (removal_touches read.value (keys m)) ts read.rest))
    ∙ taken_value root key name read.value (keys m) old
    ∙ ap (λ r. taken_by q r old) (sym read.is)

-- ---- the pruning

abbrev pruning : World → Machine → List (Touch Entry)
pruning w m = Clear (goes key_seat (keys m) (touched_keys w) (kept_keys w)) ∷ []

what_prunes : (w : World) (m : Machine) (ts : List (Touch Entry)) → prune_keys w (touched_keys w) m ≡ Ok ts → pruning w m ≡ ts
unfolding prune_keys
what_prunes w m ts e = from_ok (pruning w m) ts e

-- it takes no value
no_value : (w : World) (m : Machine) (root : ℕ) (key name : Text) (old : Option Entry) → left_at (value_name root key name) (pruning w m) old ≡ old
unfolding goes value_name
no_value w m root key name old = refl

-- ---- the phase

pub record Parts (w : World) (m : Machine) : Type 0 where
  pub between : Machine
  pub is : IsBeforePruning w between
  pub after : (q : Name) → get m q ≡ left_at q (pruning w between) (get between q)

pub parts_of : (w : World) (m : Machine) → IsAfter remove_registry_values w m → Parts w m
unfolding remove_registry_values
parts_of w m after =
    let rows = map (remove_row w) (leaving_rows w) in
    let more = map (removal_row w) (removal_rows w) in
    let last = pruned_last w.machine (rows ++ more) (prune_keys w (touched_keys w)) after.rows after.touched in
    let two = parted w.machine rows more last.front last.first in
    record {
      between = after_rows w.machine last.front;
      is = record {
        rows = two.front;
        touched = two.first;
        more = two.back;
        taken = two.second;
        machine = ap (after_rows w.machine) two.whole ∙ after-append w.machine two.front two.back;
      };
      after = λ q.
          ap (λ n. get n q) after.machine
          ∙ last.after q
          ∙ ap (λ (ts : List (Touch Entry)). left_at q ts (get (after_rows w.machine last.front) q)) (sym (what_prunes w (after_rows w.machine last.front) last.back last.second));
    }

pub values_are_removed : (w : World) (m : Machine) → IsAfter remove_registry_values w m → (root : ℕ) (key name : Text) →
    get m (value_name root key name) ≡ values_after_remove w (value_name root key name) (get w.machine (value_name root key name))
values_are_removed w m after root key name =
    let q = value_name root key name in
    let parts = parts_of w m after in
    let step = λ (r : Numbered RemoveRegistryRow). taken_by q (removal_place (lookups w) r) in
    parts.after q
    ∙ no_value w parts.between root key name (get parts.between q)
    ∙ ap (λ n. get n q) parts.is.machine
    ∙ get-in_turn q (removal_row w) step (removal_rows w) (after_rows w.machine parts.is.rows) parts.is.more (value_taken w root key name) parts.is.taken
    ∙ ap (in_turn step (removal_rows w)) (get-in_turn q (remove_row w) (λ r. removed_by (is_guarded w) q (registry_meaning (lookups w) r)) (leaving_rows w) w.machine parts.is.rows (value_removed w root key name) parts.is.touched)

pub keys_are_pruned : (w : World) (m : Machine) → IsAfter remove_registry_values w m →
    (n : Machine) × IsBeforePruning w n × ((root : ℕ) (key : Text) →
    get m (key_name root key) ≡ cond (goes key_seat (keys n) (touched_keys w) (kept_keys w) (key_name root key)) None (get n (key_name root key)))
keys_are_pruned w m after = let parts = parts_of w m after in (parts.between, parts.is, λ root key. parts.after (key_name root key))
