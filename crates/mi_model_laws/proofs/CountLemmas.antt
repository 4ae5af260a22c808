-- The clients, counts and keys that ProcessComponents leaves, and that it leaves all other names alone.
use Rattle.std.proofs.Common.{◌≡◌, Bool, true, false, cond, ◌||◌, List, [], ◌∷◌, ◌++◌, map, Option, Some, None, refl, sym, ap, ◌∙◌}
use Rattle.std.specs.Prelude.{ℕ, suc, is_some, ◌&&◌, not, filter, nat_eq, codes, Result, Ok, Err}
use Rattle.std.proofs.lemmas.Bool.{eqb-true}
use Rattle.std.specs.List.{list_any, list_all, starts_with}
use Rattle.std.specs.Result.{result_ok}
use Rattle.std.specs.Option.{option_map_or, option_or}
use Rattle.std.specs.FinMap.{get, keys, entries, from_entries, entries-insert}
use Rattle.std.specs.FinMap.Entries.{put, by_order}
use Rattle.std.specs.declared.cmp.Ordering.{Ordering}
use Rattle.std.specs.declared.cmp.Ordering.TheVariants.{Less, Equal, Greater}
use Rattle.mi_text.specs.Maps.{Name, same_name, name_cmp}
use Rattle.mi_text.proofs.MapLemmas.{from_same, names_total, entries-from_entries}
use Rattle.mi_base.specs.declared.answers.Fault.{Fault}
use Rattle.mi_base.specs.declared.entry.Entry.{Entry}
use Rattle.mi_base.specs.declared.entry.Entry.TheVariants as entry
use Rattle.mi_base.specs.Machine.{Machine}
use Rattle.mi_base.specs.Names.{key_name, value_name}
use Rattle.mi_schema.specs.TableRows.{Rows, Numbered, numbered_from, in_key_order}
use Rattle.mi_schema.specs.declared.typed_rows.ComponentRow.{ComponentRow}
use Rattle.mi_changes.specs.Touches.{Touch, Set, Clear, left_at}
use Rattle.mi_changes.proofs.TouchLemmas.{left_at-append}
use Rattle.mi_model.specs.Texts.{Text}
use Rattle.mi_model.specs.World.{World, RowEffect, Action, MakeLocal, MakeAbsent}
use Rattle.mi_model.specs.Asked.{leaves}
use Rattle.mi_model.specs.States.{is_present}
use Rattle.mi_model.specs.Conditions.{has}
use Rattle.mi_model.specs.KeyPaths.{file_row}
use Rattle.mi_model.specs.Components.{is_made_local}
use Rattle.mi_model.specs.ComponentRows.{action_in}
use Rattle.mi_model.specs.Refusals.{◌>>=◌}
use Rattle.mi_model.specs.PhaseRows.{after_rows}
use Rattle.mi_model.specs.Parents.{or_new, keys_down_to, key_touch, key_with_parents}
use Rattle.mi_model.specs.Prune.{Path, Seat, Holder, Leaf, Apart, is_on_way, lets_go, goes, seat_goes, key_place, key_in, key_seat}
use Rattle.mi_model.specs.RegistryGuards.{kept_keys, prune_keys}
use Rattle.mi_model.specs.ClientRows.{recorded_path, component_touches}
use Rattle.mi_model.specs.SharedCounts.{shared_key, count_name, raised, lowered, is_counted}
use Rattle.mi_model.specs.CountRows.{is_guarded, counted_path, count_touches, counted_by}
use Rattle.mi_model.specs.ProcessComponents.{processed, takes_counts, touched_counts, process_components}
use Rattle.mi_model_laws.specs.PhaseLaws.{IsAfter, in_turn, ChangesOnly, first_named}
use Rattle.mi_model_laws.specs.OnlyLaws.{clients_and_counts}
use Rattle.mi_model_laws.specs.RecordLaws.{client_by, component_rows, counted_components, count_after, count_of, count_by, keys_of_count, IsProcessed, MakesKeys, PrunesKeys, is_count, leads_to_counts}
use Rattle.mi_model_laws.proofs.RowLemmas.{from_ok, bound, pruned_last, Acts, get-in_turn, alone, made_in_turn}
use Rattle.mi_model_laws.proofs.ParentLemmas.{or_nothing, keys_elsewhere, keys_made}
use Rattle.mi_model_laws.proofs.NameLemmas.{no_key, no_count, unless_named, and_true, turned, no_seat, prunes_not}
use Rattle.mi_model_laws.proofs.ClientLemmas.{component_acts, client_elsewhere}

either : (b : Bool) (old : Option Entry) → cond b old old ≡ old
either true old = refl
either false old = refl

-- ---- rows in turn

-- rows that do the same, but for those that pass
same_steps : {R : Type 0} → (test : R → Bool) (f g : R → Option Entry → Option Entry) → ((r : R) → test r ≡ false → (old : Option Entry) → f r old ≡ g r old)
    → (rows : List R) → list_any test rows ≡ false → (old : Option Entry) → in_turn f rows old ≡ in_turn g rows old
same_steps test f g each [] none old = refl
same_steps test f g each (r ∷ rows) none old =
    same_steps test f g each rows (rest (test r) (list_any test rows) none) (f r old) ∙ ap (in_turn g rows) (each r (first (test r) (list_any test rows) none) old)
  where
    first : (a b : Bool) → (a || b) ≡ false → a ≡ false
    first true b e = e
    first false b e = refl

    rest : (a b : Bool) → (a || b) ≡ false → b ≡ false
    rest true b e = cc
    rest false b e = e

none_passes : {R : Type 0} → (rows : List R) → list_any (λ r. false) rows ≡ false
none_passes [] = refl
none_passes (r ∷ rows) = none_passes rows

all_same : {R : Type 0} → (f g : R → Option Entry → Option Entry) → ((r : R) (old : Option Entry) → f r old ≡ g r old) → (rows : List R) (old : Option Entry) → in_turn f rows old ≡ in_turn g rows old
all_same f g each rows old = same_steps (λ r. false) f g (λ r none. each r) rows (none_passes rows) old

-- rows of which those that pass act
filtered : {R : Type 0} → (test : R → Bool) (step : R → Option Entry → Option Entry) (rows : List R) (old : Option Entry)
    → in_turn (λ r o. cond (test r) (step r o) o) rows old ≡ in_turn step (filter test rows) old
filtered test step [] old = refl
filtered {R} test step (r ∷ rows) old = by (test r) (filtered test step rows)
  where
    by : (b : Bool) → ((old : Option Entry) → in_turn (λ r o. cond (test r) (step r o) o) rows old ≡ in_turn step (filter test rows) old)
        → in_turn (λ r o. cond (test r) (step r o) o) rows (cond b (step r old) old) ≡ in_turn step (cond b (r ∷ filter test rows) (filter test rows)) old
    by true rest = rest (step r old)
    by false rest = rest old

-- ---- what one touches beside its clients

abbrev touches_of : Result (List (Touch Entry)) Fault → List (Touch Entry)
touches_of (Ok ts) = ts
touches_of (Err fault) = []

abbrev count_touched : World → ComponentRow → List (Touch Entry)
count_touched w c = touches_of (counted_by w c (action_in w c.component))

-- what a component makes of what stands at a name
abbrev step : World → Name → Numbered ComponentRow → Option Entry → Option Entry
step w q c old = left_at q (count_touched w c.row) (client_by w q c old)

acts_by : (w : World) (q : Name) (c : Numbered ComponentRow) (g : Option Entry → Option Entry)
    → ((ts : List (Touch Entry)) → counted_by w c.row (action_in w c.row.component) ≡ Ok ts → (old : Option Entry) → left_at q ts old ≡ g old)
    → Acts q (λ m. processed w c.row) (λ old. g (client_by w q c old))
unfolding processed
acts_by w q c g counts m ts e old =
    let counted = counted_by w c.row (action_in w c.row.component) in
    let one = bound (component_touches w c.row) (λ clients. counted >>= λ counts. Ok (clients ++ counts)) ts e in
    let two = bound counted (λ counts. Ok (one.value ++ counts)) ts one.rest in
    ap (λ (ts : List (Touch Entry)). left_at q ts old) (sym (from_ok (one.value ++ two.value) ts two.rest))
    ∙ left_at-append q one.value two.value old
    ∙ counts two.value two.is (left_at q one.value old)
    ∙ ap g (component_acts w q c m one.value one.is old)

acts : (w : World) (q : Name) (c : Numbered ComponentRow) → Acts q (λ m. processed w c.row) (step w q c)
acts w q c = acts_by w q c (left_at q (count_touched w c.row)) (λ ts e old. ap (λ r. left_at q (touches_of r) old) (sym e))

-- a name that the keys of the counts leave alone
abbrev KeysApart : Name → Type 0
KeysApart q = (old : Option Entry) → left_at q (key_with_parents 2 shared_key) old ≡ old

behind_keys : (q n : Name) (change : Option Entry → Option Entry) (old : Option Entry) → KeysApart q → left_at q (key_with_parents 2 shared_key ++ Set n change ∷ []) old ≡ cond (same_name q n) (change old) old
behind_keys q n change old apart = left_at-append q (key_with_parents 2 shared_key) (Set n change ∷ []) old ∙ ap (λ o. cond (same_name q n) (change o) o) (apart old)

count_at : (w : World) (c : ComponentRow) (q : Name) (path : Text) (action : Action) (old : Option Entry) → KeysApart q
    → left_at q (count_touches w c path action) old ≡ cond (same_name q (count_name path)) (count_after w c path action old) old
count_at w c q path MakeLocal old apart = by (is_present w.given c)
  where
    by : (b : Bool) → left_at q (cond b [] (key_with_parents 2 shared_key ++ Set (count_name path) (raised path) ∷ [])) old ≡ cond (same_name q (count_name path)) (cond b old (raised path old)) old
    by true = sym (either (same_name q (count_name path)) old)
    by false = behind_keys q (count_name path) (raised path) old apart
count_at w c q path MakeAbsent old apart = by (leaves w c.component) (is_guarded w (count_name path))
  where
    by : (l g : Bool) → left_at q (cond l (cond g [] (Set (count_name path) (λ o. None) ∷ [])) (Set (count_name path) lowered ∷ [])) old
        ≡ cond (same_name q (count_name path)) (cond l (cond g old None) (lowered old)) old
    by true true = sym (either (same_name q (count_name path)) old)
    by true false = refl
    by false g = refl

-- at a name that the keys leave alone a counted component acts on its count
counts_at : (w : World) (q : Name) (c : ComponentRow) → KeysApart q → (old : Option Entry)
    → left_at q (count_touched w c) old ≡ cond (is_counted w.given.rows c) (option_map_or (λ (a : Action). count_of w c q a (recorded_path w c) old) (action_in w c.component) old) old
counts_at w q c apart old = by_action (action_in w c.component)
  where
    by_path : (action : Action) (r : Result Text Fault) → left_at q (touches_of (r >>= λ path. Ok (count_touches w c path action))) old ≡ count_of w c q action r old
    by_path action (Err fault) = refl
    by_path action (Ok path) = count_at w c q path action old apart

    by_counted : (action : Action) (b : Bool) → left_at q (touches_of (cond b (recorded_path w c >>= λ path. Ok (count_touches w c path action)) (Ok []))) old ≡ cond b (count_of w c q action (recorded_path w c) old) old
    by_counted action true = by_path action (recorded_path w c)
    by_counted action false = refl

    by_action : (action : Option Action) → left_at q (touches_of (counted_by w c action)) old ≡ cond (is_counted w.given.rows c) (option_map_or (λ (a : Action). count_of w c q a (recorded_path w c) old) action old) old
    by_action None = sym (either (is_counted w.given.rows c) old)
    by_action (Some action) = by_counted action (is_counted w.given.rows c)

-- ---- at a key

no_count_at_key : (root : ℕ) (key path : Text) → same_name (key_name root key) (count_name path) ≡ false
unfolding key_name value_name
no_count_at_key root key path = refl

keys_of : (root : ℕ) (key path : Text) (change : Option Entry → Option Entry) (old : Option Entry)
    → left_at (key_name root key) (key_with_parents 2 shared_key ++ Set (count_name path) change ∷ []) old ≡ option_or old (first_named (key_name root key) (map (entry.Key 2) (keys_down_to shared_key)))
keys_of root key path change old =
    let q = key_name root key in
    left_at-append q (key_with_parents 2 shared_key) (Set (count_name path) change ∷ []) old
    ∙ unless_named (same_name q (count_name path)) (left_at q (key_with_parents 2 shared_key) old) _ (no_count_at_key root key path)
    ∙ keys_made q 2 shared_key old

keys_at : (w : World) (root : ℕ) (key : Text) (c : Numbered ComponentRow) (ts : List (Touch Entry)) → counted_by w c.row (action_in w c.row.component) ≡ Ok ts → (old : Option Entry)
    → left_at (key_name root key) ts old ≡ cond (is_counted w.given.rows c.row) (option_or old (first_named (key_name root key) (keys_of_count w c))) old
keys_at w root key c ts e old = by_action (action_in w c.row.component) ts e
  where
    q : Name
    q = key_name root key

    found : Bool → List Entry
    found b = cond b (map (entry.Key 2) (keys_down_to shared_key)) []

    by_path : (path : Text) (action : Action) → left_at q (count_touches w c.row path action) old ≡ option_or old (first_named q (found (is_made_local (Some action) && not (is_present w.given c.row))))
    by_path path MakeLocal = by (is_present w.given c.row)
      where
        by : (b : Bool) → left_at q (cond b [] (key_with_parents 2 shared_key ++ Set (count_name path) (raised path) ∷ [])) old ≡ option_or old (first_named q (found (not b)))
        by true = sym (or_nothing old)
        by false = keys_of root key path (raised path) old
    by_path path MakeAbsent = by (leaves w c.row.component) (is_guarded w (count_name path)) ∙ sym (or_nothing old)
      where
        by : (l g : Bool) → left_at q (cond l (cond g [] (Set (count_name path) (λ o. None) ∷ [])) (Set (count_name path) lowered ∷ [])) old ≡ old
        by true true = refl
        by true false = unless_named (same_name q (count_name path)) old _ (no_count_at_key root key path)
        by false g = unless_named (same_name q (count_name path)) old _ (no_count_at_key root key path)

    by_counted : (action : Action) (b : Bool) (ts : List (Touch Entry)) → cond b (recorded_path w c.row >>= λ path. Ok (count_touches w c.row path action)) (Ok []) ≡ Ok ts
        → left_at q ts old ≡ cond b (option_or old (first_named q (found (is_made_local (Some action) && not (is_present w.given c.row))))) old
    by_counted action true ts e =
        let read = bound (recorded_path w c.row) (λ path. Ok (count_touches w c.row path action)) ts e in
        ap (λ (ts : List (Touch Entry)). left_at q ts old) (sym (from_ok (count_touches w c.row read.value action) ts read.rest)) ∙ by_path read.value action
    by_counted action false ts e = ap (λ (ts : List (Touch Entry)). left_at q ts old) (sym (from_ok [] ts e))

    by_action : (action : Option Action) (ts : List (Touch Entry)) → counted_by w c.row action ≡ Ok ts
        → left_at q ts old ≡ cond (is_counted w.given.rows c.row) (option_or old (first_named q (found (is_made_local action && not (is_present w.given c.row))))) old
    by_action None ts e = ap (λ (ts : List (Touch Entry)). left_at q ts old) (sym (from_ok [] ts e)) ∙ sym (ap (λ o. cond (is_counted w.given.rows c.row) o old) (or_nothing old) ∙ either (is_counted w.given.rows c.row) old)
    by_action (Some action) ts e = by_counted action (is_counted w.given.rows c.row) ts e

-- ---- the phase

record Parts (w : World) (m : Machine) : Type 0 where
  between : Machine
  is : IsProcessed w between
  after : (q : Name) → get m q ≡ cond (goes key_seat (keys between) (touched_counts w) (kept_keys w) q) None (get between q)

keys_prune : (w : World) (touched : List Path) (m : Machine) (ts : List (Touch Entry)) → prune_keys w touched m ≡ Ok ts → Clear (goes key_seat (keys m) touched (kept_keys w)) ∷ [] ≡ ts
unfolding prune_keys
keys_prune w touched m ts e = from_ok (Clear (goes key_seat (keys m) touched (kept_keys w)) ∷ []) ts e

abbrev rows_of : World → List RowEffect
rows_of w = map {B = RowEffect} (λ (c : Numbered ComponentRow) m. processed w c.row) (component_rows w)

parts_of : (w : World) (m : Machine) → IsAfter process_components w m → Parts w m
unfolding process_components
parts_of w m after =
    let last = pruned_last w.machine (rows_of w) (prune_keys w (touched_counts w)) after.rows after.touched in
    let n = after_rows w.machine last.front in
    record {
      between = n;
      is = record { rows = last.front; touched = last.first; machine = refl };
      after = λ q.
          ap (λ k. get k q) after.machine
          ∙ last.after q
          ∙ ap (λ (ts : List (Touch Entry)). left_at q ts (get n q)) (sym (keys_prune w (touched_counts w) n last.back last.second));
    }

processed_at : (w : World) (n : Machine) → IsProcessed w n → (q : Name) → get n q ≡ in_turn (step w q) (component_rows w) (get w.machine q)
processed_at w n is q = ap (λ k. get k q) is.machine ∙ get-in_turn q (λ (c : Numbered ComponentRow) m. processed w c.row) (step w q) (component_rows w) w.machine is.rows (acts w q) is.touched

-- a name that pruning leaves alone
unpruned : (w : World) (m : Machine) (after : IsAfter process_components w m) (q : Name) → goes key_seat (keys (parts_of w m after).between) (touched_counts w) (kept_keys w) q ≡ false
    → get m q ≡ in_turn (step w q) (component_rows w) (get w.machine q)
unpruned w m after q stays =
    let parts = parts_of w m after in
    parts.after q ∙ unless_named (goes key_seat (keys parts.between) (touched_counts w) (kept_keys w) q) (get parts.between q) None stays ∙ processed_at w parts.between parts.is q

-- ---- names that no count is

names_none : (q : Name) → ((path : Text) → same_name q (count_name path) ≡ false) → (o : Option Text) → option_map_or (λ path. same_name q (count_name path)) o false ≡ false
names_none q apart None = refl
names_none q apart (Some path) = apart path

unnamed : (w : World) (c : ComponentRow) (q : Name) (b : Bool) (r : Result Text Fault) (action : Option Action) (old : Option Entry)
    → option_map_or (λ path. same_name q (count_name path)) (cond b (result_ok r) None) false ≡ false → cond b (option_map_or (λ (a : Action). count_of w c q a r old) action old) old ≡ old
unnamed w c q false r action old e = refl
unnamed w c q true r None old e = refl
unnamed w c q true (Err fault) (Some a) old e = refl
unnamed w c q true (Ok path) (Some a) old e = unless_named (same_name q (count_name path)) old (count_after w c path a old) e

unnamed_stays : (w : World) (q : Name) (c : ComponentRow) → KeysApart q → option_map_or (λ path. same_name q (count_name path)) (counted_path w c) false ≡ false
    → (old : Option Entry) → left_at q (count_touched w c) old ≡ old
unnamed_stays w q c apart none old = counts_at w q c apart old ∙ unnamed w c q (is_counted w.given.rows c) (recorded_path w c) (action_in w c.component) old none

-- ---- clients

begins_client : (q : Name) → starts_with nat_eq q (codes "c/") ≡ true → (rest : List ℕ) × (q ≡ 99 ∷ rest)
begins_client [] e = cc
begins_client (a ∷ rest) e = (rest, ap (λ (n : ℕ). n ∷ rest) (sym (eqb-true 99 a (both_true (nat_eq 99 a) _ e))))
  where
    both_true : (a b : Bool) → (a && b) ≡ true → a ≡ true
    both_true true b e = refl
    both_true false b e = e

pub clients_are_processed : (w : World) (m : Machine) → IsAfter process_components w m → (q : Name) → starts_with nat_eq q (codes "c/") ≡ true
    → get m q ≡ in_turn (client_by w q) (component_rows w) (get w.machine q)
clients_are_processed w m after q begins =
    let is = begins_client q begins in
    let apart : KeysApart q = λ old. keys_elsewhere q 2 shared_key old (no_key q (ap (λ (n : Name). starts_with nat_eq n (codes "k/")) is.1)) in
    let none = no_count q (ap (λ (n : Name). starts_with nat_eq n (codes "v/2")) is.1) in
    let seat = no_seat q (ap (λ (n : Name). starts_with nat_eq n (codes "k")) is.1) (ap (λ (n : Name). starts_with nat_eq n (codes "v")) is.1) in
    unpruned w m after q (prunes_not (keys (parts_of w m after).between) (touched_counts w) (kept_keys w) q seat)
    ∙ all_same (step w q) (client_by w q) (λ c old. unnamed_stays w q c.row apart (names_none q none (counted_path w c.row)) (client_by w q c old)) (component_rows w) (get w.machine q)

-- ---- counts

no_value_goes : (held : List Name) (touched protected : List Path) (root : ℕ) (key name : Text) → goes key_seat held touched protected (value_name root key name) ≡ false
unfolding goes value_name
no_value_goes held touched protected root key name = refl

value_is_no_key : (root : ℕ) (key name : Text) → starts_with nat_eq (value_name root key name) (codes "k/") ≡ false
unfolding value_name
value_is_no_key root key name = refl

value_is_no_client : (root : ℕ) (key name : Text) → starts_with nat_eq (value_name root key name) (codes "c/") ≡ false
unfolding value_name
value_is_no_client root key name = refl

pub counts_are_kept : (w : World) (m : Machine) → IsAfter process_components w m → (root : ℕ) (key name : Text)
    → get m (value_name root key name) ≡ in_turn (count_by w (value_name root key name)) (counted_components w) (get w.machine (value_name root key name))
counts_are_kept w m after root key name =
    let q = value_name root key name in
    let apart : KeysApart q = λ old. keys_elsewhere q 2 shared_key old (no_key q (value_is_no_key root key name)) in
    let counted = λ (c : Numbered ComponentRow). is_counted w.given.rows c.row in
    unpruned w m after q (no_value_goes (keys (parts_of w m after).between) (touched_counts w) (kept_keys w) root key name)
    ∙ all_same (step w q) (λ c o. cond (counted c) (count_by w q c o) o)
    (λ c old. counts_at w q c.row apart (client_by w q c old) ∙ ap (λ o. cond (counted c) (count_by w q c o) o) (client_elsewhere w q (value_is_no_client root key name) c old))
    (component_rows w) (get w.machine q)
    ∙ filtered counted (count_by w q) (component_rows w) (get w.machine q)

-- ---- keys

key_is_no_client : (root : ℕ) (key : Text) → starts_with nat_eq (key_name root key) (codes "c/") ≡ false
unfolding key_name
key_is_no_client root key = refl

made_keys : (w : World) (n : Machine) → IsProcessed w n → MakesKeys w n
made_keys w n is root key =
    let q = key_name root key in
    let counted = λ (c : Numbered ComponentRow). is_counted w.given.rows c.row in
    let made = λ (c : Numbered ComponentRow) (o : Option Entry). option_or o (first_named q (keys_of_count w c)) in
    let both = λ (c : Numbered ComponentRow) (o : Option Entry). cond (counted c) (made c o) o in
    ap (λ k. get k q) is.machine
    ∙ get-in_turn q (λ (c : Numbered ComponentRow) m. processed w c.row) (λ c old. both c (client_by w q c old)) (component_rows w) w.machine is.rows (λ c. acts_by w q c (both c) (keys_at w root key c)) is.touched
    ∙ all_same (λ c old. both c (client_by w q c old)) both (λ c old. ap (both c) (client_elsewhere w q (key_is_no_client root key) c old)) (component_rows w) (get w.machine q)
    ∙ filtered counted made (component_rows w) (get w.machine q)
    ∙ made_in_turn q (keys_of_count w) (counted_components w) (get w.machine q)

pub keys_are_made_and_pruned : (w : World) (m : Machine) → IsAfter process_components w m → (n : Machine) × IsProcessed w n × MakesKeys w n × PrunesKeys w n m
keys_are_made_and_pruned w m after =
    let parts = parts_of w m after in
    (parts.between, parts.is, made_keys w parts.between parts.is, λ root key. parts.after (key_name root key))

-- ---- all other names

-- a name on the way to the counts is none that isn't
all_lead : list_all (λ (k : Text). leads_to_counts (key_seat (key_name 2 k))) (keys_down_to shared_key) ≡ true
unfolding key_name
all_lead = refl

leading_apart : (q : Name) → leads_to_counts (key_seat q) ≡ false → KeysApart q
leading_apart q isnt old = elsewhere (keys_down_to shared_key) old all_lead
  where
    other : (n : Name) → leads_to_counts (key_seat n) ≡ true → same_name q n ≡ false
    other n is = elim (same_name q n) as (λ b. same_name q n ≡ b → b ≡ false) [
      | true ↦ λ same. sym is ∙ sym (ap (λ (k : Name). leads_to_counts (key_seat k)) (from_same q n same)) ∙ isnt
      | false ↦ λ same. refl
    ] refl

    first : (a b : Bool) → (a && b) ≡ true → a ≡ true
    first true b e = refl
    first false b e = e

    rest : (a b : Bool) → (a && b) ≡ true → b ≡ true
    rest true b e = e
    rest false b e = cc

    elsewhere : (ks : List Text) (old : Option Entry) → list_all (λ (k : Text). leads_to_counts (key_seat (key_name 2 k))) ks ≡ true → left_at q (map (key_touch 2) ks) old ≡ old
    elsewhere [] old lead = refl
    elsewhere (k ∷ ks) old lead =
        let n = key_name 2 k in
        ap (λ b. left_at q (map (key_touch 2) ks) (cond b (or_new (entry.Key 2 k) old) old)) (other n (first (leads_to_counts (key_seat n)) _ lead))
        ∙ elsewhere ks old (rest (leads_to_counts (key_seat n)) _ lead)

-- pruning goes along the way to the counts alone
off_the_way : (held : List Name) (takes : Bool) (protected : List Path) (s : Seat) → leads_to_counts s ≡ false → seat_goes key_seat held (cond takes (key_place 2 shared_key ∷ []) []) protected s ≡ false
off_the_way held true protected (Holder path) isnt = ap (λ b. (b || false) && not (is_on_way protected path) && list_all (λ other. lets_go (key_place 2 shared_key ∷ []) path (key_seat other)) held) isnt
off_the_way held false protected (Holder path) isnt = refl
off_the_way held takes protected (Leaf path) isnt = refl
off_the_way held takes protected Apart isnt = refl

other_stays : (w : World) (held : List Name) (q : Name) → leads_to_counts (key_seat q) ≡ false → goes key_seat held (touched_counts w) (kept_keys w) q ≡ false
unfolding goes
other_stays w held q isnt = off_the_way held (takes_counts w) (kept_keys w) (key_seat q) isnt

pub others_are_kept : (w : World) (m : Machine) → IsAfter process_components w m → (q : Name) → starts_with nat_eq q (codes "c/") ≡ false → is_count w q ≡ false → leads_to_counts (key_seat q) ≡ false → get m q ≡ get w.machine q
others_are_kept w m after q client count leads =
    unpruned w m after q (other_stays w (keys (parts_of w m after).between) q leads)
    ∙ same_steps (λ (c : Numbered ComponentRow). option_map_or (λ path. same_name q (count_name path)) (counted_path w c.row) false) (step w q) (λ c old. old)
    (λ c none old. unnamed_stays w q c.row (leading_apart q leads) none (client_by w q c old) ∙ client_elsewhere w q client c old)
    (component_rows w) count (get w.machine q)
    ∙ alone (component_rows w) (get w.machine q)

never : {R : Type 0} → (test : R → Bool) → ((r : R) → test r ≡ false) → (rows : List R) → list_any test rows ≡ false
never test none [] = refl
never test none (r ∷ rows) = ap (λ b. b || list_any test rows) (none r) ∙ never test none rows

pub only_clients_and_counts : ChangesOnly clients_and_counts process_components
only_clients_and_counts w m after q e =
    let none = no_count q (first (starts_with nat_eq q (codes "v/2")) _ (rest (starts_with nat_eq q (codes "c/")) _ e)) in
    others_are_kept w m after q (first (starts_with nat_eq q (codes "c/")) _ e)
    (never (λ (c : Numbered ComponentRow). option_map_or (λ path. same_name q (count_name path)) (counted_path w c.row) false) (λ c. names_none q none (counted_path w c.row)) (component_rows w))
    (no_way q (first (starts_with nat_eq q (codes "k")) _ (rest (starts_with nat_eq q (codes "v/2")) _ (rest (starts_with nat_eq q (codes "c/")) _ e))))
  where
    first : (a b : Bool) → (a || b) ≡ false → a ≡ false
    first true b e = e
    first false b e = refl

    rest : (a b : Bool) → (a || b) ≡ false → b ≡ false
    rest true b e = cc
    rest false b e = e

    no_way : (q : Name) → starts_with nat_eq q (codes "k") ≡ false → leads_to_counts (key_seat q) ≡ false
    no_way [] k = refl
    no_way (a ∷ []) k = refl
    no_way (a ∷ b ∷ []) k = refl
    no_way (a ∷ b ∷ c ∷ more) k = by (nat_eq a 107) (nat_eq a 118) (turned a 107 (and_true (nat_eq 107 a) k))
      where
        by : (x y : Bool) → x ≡ false → leads_to_counts (cond x (Holder (c ∷ more ++ 92 ∷ [])) (cond y (Leaf (c ∷ key_in more ++ 92 ∷ [])) Apart)) ≡ false
        by true y isnt = cc
        by false true isnt = refl
        by false false isnt = refl

-- ---- where no component has attribute 8

both_none : (a b : Bool) → a ≡ false → b ≡ false → (a || b) ≡ false
both_none true b x y = x
both_none false b x y = y

first_none : (a b : Bool) → (a || b) ≡ false → a ≡ false
first_none true b e = e
first_none false b e = refl

rest_none : (a b : Bool) → (a || b) ≡ false → b ≡ false
rest_none true b e = cc
rest_none false b e = e

-- what no row of a table passes, none in the order of keys passes
module _ {R : Type 0} (key : R → Name) (test : R → Bool) where
  abbrev passes : Name × Numbered R → Bool
  passes e = test e.1.row

  none_put : (k : Name) (v : Numbered R) (es : List (Name × Numbered R)) → test v.row ≡ false → list_any passes es ≡ false → list_any passes (put name_cmp k v es) ≡ false
  none_put k v [] out none = ap (λ b. b || false) out
  none_put k v (e ∷ es) out none = by (name_cmp k e.0) (none_put k v es out (rest_none (passes e) (list_any passes es) none))
    where
      by : (o : Ordering) → list_any passes (put name_cmp k v es) ≡ false → list_any passes (by_order o ((k, v) ∷ e ∷ es) ((e.0, v) ∷ es) (e ∷ put name_cmp k v es)) ≡ false
      by Less rest = both_none (test v.row) (list_any passes (e ∷ es)) out none
      by Equal rest = both_none (test v.row) (list_any passes es) out (rest_none (passes e) (list_any passes es) none)
      by Greater rest = both_none (passes e) (list_any passes (put name_cmp k v es)) (first_none (passes e) (list_any passes es) none) rest

  abbrev pairs : ℕ → List R → List (Name × Numbered R)
  pairs n rows = map (λ (r : Numbered R). (key r.row, r)) (numbered_from n rows)

  abbrev made : ℕ → List R → List (Name × Numbered R)
  made n rows = entries (from_entries {R = name_cmp} (pairs n rows))

  none_made : (n : ℕ) (rows : List R) → list_any test rows ≡ false → list_any passes (made n rows) ≡ false
  none_made n [] none = ap (list_any passes) (entries-from_entries {X = Numbered R} [] tt)
  none_made n (r ∷ rows) none =
      let v : Numbered R = record { number = n; row = r } in
      ap (list_any passes) (entries-insert names_total (from_entries {R = name_cmp} (pairs (suc n) rows)) (key r) v)
      ∙ none_put (key r) v (made (suc n) rows) (first_none (test r) (list_any test rows) none) (none_made (suc n) rows (rest_none (test r) (list_any test rows) none))

  of_second : (es : List (Name × Numbered R)) → list_any (λ (r : Numbered R). test r.row) (map (λ (e : Name × Numbered R). e.1) es) ≡ list_any passes es
  of_second [] = refl
  of_second (e ∷ es) = ap (λ b. passes e || b) (of_second es)

  pub none_in_order : (rows : List R) → list_any test rows ≡ false → list_any (λ (r : Numbered R). test r.row) (in_key_order key rows) ≡ false
  unfolding in_key_order
  none_in_order rows none = of_second (made 1 rows) ∙ none_made 1 rows none

-- what passes less, too
less_any : {R : Type 0} → (test other : R → Bool) → ((r : R) → test r ≡ false → other r ≡ false) → (rows : List R) → list_any test rows ≡ false → list_any other rows ≡ false
less_any test other less [] none = refl
less_any test other less (r ∷ rows) none =
    both_none (other r) (list_any other rows) (less r (first_none (test r) (list_any test rows) none)) (less_any test other less rows (rest_none (test r) (list_any test rows) none))

abbrev without_8 : World → Type 0
without_8 w = list_any (λ (c : ComponentRow). has 8 c.attributes) w.given.rows.component ≡ false

uncounted : (rows : Rows) (c : ComponentRow) → has 8 c.attributes ≡ false → is_counted rows c ≡ false
uncounted rows c out = ap (λ b. b && is_some c.component_id && is_some (file_row rows c)) out

nothing_taken : (w : World) → without_8 w → takes_counts w ≡ false
nothing_taken w none = less_any (λ (c : ComponentRow). has 8 c.attributes) (λ c. leaves w c.component && is_counted w.given.rows c) (λ c out. unless_counted (leaves w c.component) (is_counted w.given.rows c) (uncounted w.given.rows c out)) w.given.rows.component none
  where
    unless_counted : (a b : Bool) → b ≡ false → (a && b) ≡ false
    unless_counted true b e = e
    unless_counted false b e = refl

nothing_touched : (w : World) (c : ComponentRow) (q : Name) → has 8 c.attributes ≡ false → (old : Option Entry) → left_at q (count_touched w c) old ≡ old
nothing_touched w c q out old = by_action (action_in w c.component)
  where
    by_action : (action : Option Action) → left_at q (touches_of (counted_by w c action)) old ≡ old
    by_action None = refl
    by_action (Some action) = ap (λ b. left_at q (touches_of (cond b (recorded_path w c >>= λ path. Ok (count_touches w c path action)) (Ok []))) old) (uncounted w.given.rows c out)

nothing_pruned : (held : List Name) (protected : List Path) (s : Seat) → seat_goes key_seat held [] protected s ≡ false
nothing_pruned held protected (Holder path) = refl
nothing_pruned held protected (Leaf path) = refl
nothing_pruned held protected Apart = refl

all_stay : (w : World) (held : List Name) (q : Name) → without_8 w → goes key_seat held (touched_counts w) (kept_keys w) q ≡ false
unfolding goes
all_stay w held q none = ap (λ b. seat_goes key_seat held (cond b (key_place 2 shared_key ∷ []) []) (kept_keys w) (key_seat q)) (nothing_taken w none) ∙ nothing_pruned held (kept_keys w) (key_seat q)

pub nothing_is_counted : (w : World) (m : Machine) → IsAfter process_components w m → list_any (λ (c : ComponentRow). has 8 c.attributes) w.given.rows.component ≡ false
    → (q : Name) → get m q ≡ in_turn (client_by w q) (component_rows w) (get w.machine q)
nothing_is_counted w m after none q =
    unpruned w m after q (all_stay w (keys (parts_of w m after).between) q none)
    ∙ same_steps (λ (c : Numbered ComponentRow). has 8 c.row.attributes) (step w q) (client_by w q) (λ c out old. nothing_touched w c.row q out (client_by w q c old))
    (component_rows w) (none_in_order (λ (c : ComponentRow). c.component) (λ (c : ComponentRow). has 8 c.attributes) w.given.rows.component none) (get w.machine q)
