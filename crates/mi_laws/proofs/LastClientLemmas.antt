-- No client row of a component that leaves is left after the run.
use Rattle.std.proofs.Common.{◌≡◌, ℕ, Bool, true, false, cond, ◌||◌, List, [], ◌∷◌, map, Option, Some, None, refl, sym, ap, subst, ◌∙◌, arith}
use Rattle.std.specs.Prelude.{◌&&◌, not, codes, filter, option_map, unwrap_or, IfSome, IsSome, ◌==◌}
use Rattle.std.specs.List.{list_any, AllByRecursion}
use Rattle.std.specs.Option.{option_flatten}
use Rattle.std.specs.FinMap.{get}
use Rattle.mi_text.specs.Maps.{Name, same_name, is_among}
use Rattle.mi_text.specs.Lookups.{Lookups}
use Rattle.mi_text.proofs.MapLemmas.{from_same}
use Rattle.mi_dirs.specs.Places.{Place}
use Rattle.mi_base.specs.Names.{client_name}
use Rattle.mi_base.specs.Machine.{Machine, IsMachine, client_at, as_client}
use Rattle.mi_schema.specs.TableRows.{Numbered, in_key_order, product_code}
use Rattle.mi_schema.specs.declared.typed_rows.ComponentRow.{ComponentRow}
use Rattle.mi_model.specs.World.{Given, World, Action, Selection, Costed, MakeLocal, MakeAbsent}
use Rattle.mi_model.specs.Asked.{lookups_over, leaves}
use Rattle.mi_model.specs.ClientRows.{the_system}
use Rattle.mi_model.specs.Components.{is_made_absent, has_other_client}
use Rattle.mi_model.specs.ComponentRows.{choice_of}
use Rattle.mi_model.specs.Conditions.{has}
use Rattle.mi_model.specs.States.{named}
use Rattle.mi_model.specs.Selecting.{component_order, component_action, leaves_in, key_path}
use Rattle.mi_model.specs.SharedCounts.{has_other_count}
use Rattle.mi_model.specs.Walk.{Walked}
use Rattle.mi_laws.specs.Walks.{Selects}
use Rattle.mi_laws.proofs.SelectLemmas.{selection, both_of, leaving_may}
use Rattle.mi_laws.proofs.SoundLemmas.{walk_done, last_is}
use Rattle.mi_laws.proofs.ClientWalkLemmas.{walked_end, IsWalked}
use Rattle.mi_laws.proofs.ClientNameLemmas.{other_client, begins_client_name, zero_is_code}
use Rattle.std.proofs.lemmas.Bool.Decides.{nat_tests}
use Rattle.mi_laws.specs.Clients.{IsCode, has_id, LastClientsGo}
use Rattle.mi_laws.proofs.ClientRowLemmas.{is_row_of}
use Rattle.mi_laws.proofs.KeyOrderLemmas.{all_ordered}
use Rattle.mi_laws.proofs.TidyLemmas.{IsTidy, tidy_of}
use Rattle.mi_laws.proofs.IdLemmas.{is_client, ids_named, named_ids, id_code, clients_named, any_client, taken_by, no_client, free_of}

made_absent : (o : Option Action) → is_made_absent o ≡ true → o ≡ Some MakeAbsent
made_absent (Some MakeAbsent) is = refl
made_absent (Some MakeLocal) is = cc
made_absent None is = cc

-- a component that leaves is made absent
leaves_absent : (g : Given) (L : Lookups) (dirs : List Place) (level : ℕ) (r : ComponentRow) → leaves_in g L dirs level r ≡ true → component_action g L dirs level r ≡ Some MakeAbsent
leaves_absent g L dirs level r is =
    let absent = is_made_absent (component_action g L dirs level r) in
    let free = not (has 16 r.attributes) in
    let alone = not (has_other_client g.former (product_code g.rows) r.component_id) in
    let one = both_of (absent && free && alone) (not (has_other_count g.rows g.former r (key_path g L dirs r))) is in
    made_absent (component_action g L dirs level r) (both_of absent free (both_of (absent && free) alone one.0).0).0

module _ (g : Given) (L : Lookups) (dirs : List Place) (level : ℕ) (name : Name) (acts : List (Name × Option Action)) where
  abbrev among : List (Numbered ComponentRow) → Bool
  among rows = is_among name (map (λ (r : ComponentRow). r.component) (filter (leaves_in g L dirs level) (map (λ (r : Numbered ComponentRow). r.row) rows)))

  by_name : (r : Numbered ComponentRow) (rows : List (Numbered ComponentRow)) (b : Bool) → same_name name r.row.component ≡ b → named r.row.component acts ≡ Some (component_action g L dirs level r.row) → leaves_in g L dirs level r.row ≡ true
      → (b || among rows) ≡ true → (among rows ≡ true → named name acts ≡ Some (Some MakeAbsent)) → named name acts ≡ Some (Some MakeAbsent)
  by_name r rows true same is leaving e later = ap (λ n. named n acts) (from_same name r.row.component same) ∙ is ∙ ap Some (leaves_absent g L dirs level r.row leaving)
  by_name r rows false same is leaving e later = later e

  by_leaving : (r : Numbered ComponentRow) (rows : List (Numbered ComponentRow)) (b : Bool) → leaves_in g L dirs level r.row ≡ b → named r.row.component acts ≡ Some (component_action g L dirs level r.row)
      → is_among name (map (λ (r : ComponentRow). r.component) (cond b (r.row ∷ filter (leaves_in g L dirs level) (map (λ (r : Numbered ComponentRow). r.row) rows)) (filter (leaves_in g L dirs level) (map (λ (r : Numbered ComponentRow). r.row) rows)))) ≡ true
      → (among rows ≡ true → named name acts ≡ Some (Some MakeAbsent)) → named name acts ≡ Some (Some MakeAbsent)
  by_leaving r rows true leaving is e later = by_name r rows (same_name name r.row.component) refl is leaving e later
  by_leaving r rows false leaving is e later = later e

  named_absent : (rows : List (Numbered ComponentRow)) → AllByRecursion (λ (c : Numbered ComponentRow). named c.row.component acts ≡ Some (component_action g L dirs level c.row)) rows → among rows ≡ true → named name acts ≡ Some (Some MakeAbsent)
  named_absent [] all e = cc
  named_absent (r ∷ rows) all e = by_leaving r rows (leaves_in g L dirs level r.row) refl all.0 e (named_absent rows all.1)

absent_action : (g : Given) (w : World) (s : Selection) (name : Name) → IsTidy g → choice_of w ≡ Some s → Selects g s → leaves w name ≡ true → named name s.actions ≡ Some (Some MakeAbsent)
unfolding leaves
absent_action g w s name tidy chosen sel is =
    let L = lookups_over g sel.props (Some sel.dirs) None in
    let all = selection g s sel in
    let acts = map (λ (r : ComponentRow). (r.component, component_action g L sel.dirs all.level r)) (component_order g.rows) in
    ap (named name) all.actions
    ∙ named_absent g L sel.dirs all.level name acts (in_key_order (λ (c : ComponentRow). c.component) g.rows.component) (tidy.actions (component_action g L sel.dirs all.level)) (ap (is_among name) (sym all.leaving) ∙ by w.costed chosen is)
  where
    by : (o : Option Costed) → option_map (λ (c : Costed). c.choice) o ≡ Some s → is_among name (unwrap_or (option_map (λ (c : Costed). c.choice.leaving) o) []) ≡ true → is_among name s.leaving ≡ true
    by (Some c) e found = let same : c.choice ≡ s = cc in ap (λ (t : Selection). is_among name t.leaving) (sym same) ∙ found
    by None e found = cc

some_of : {X : Type 0} (o : Option X) → IsSome o → (x : X) × (o ≡ Some x)
some_of (Some x) some = (x, refl)
some_of None some = cc

-- the end of a walk that has processed the components, of which this one leaves
module _ (g : Given) (tidy : IsTidy g) (w : Walked) (walked : IsWalked g tidy w) (ran : is_among (codes "ProcessComponents") w.begun ≡ true) (component : Name) (id : ℕ) (leaving : leaves w.world component ≡ true) (there : list_any (has_id component id) g.rows.component ≡ true) where
  abbrev own : ℕ
  own = product_code g.rows

  abbrev ordered : List (Numbered ComponentRow)
  ordered = in_key_order (λ (c : ComponentRow). c.component) g.rows.component

  id_is : IsCode id
  id_is = id_code component id g.rows.component tidy.lawful.codes_are there

  -- what it has selected
  chosen : (s : Selection) × (choice_of w.world ≡ Some s)
  chosen = some_of (choice_of w.world) (walked.seen.costed (walked.seen.processed_costed ran))

  absent : named component chosen.0.actions ≡ Some (Some MakeAbsent)
  absent = absent_action g w.world chosen.0 component tidy chosen.1 (subst (λ (o : Option Selection). IfSome o (Selects g)) chosen.1 walked.sound.selected) leaving

  taken : (product other : ℕ) → AllByRecursion (λ (c : Numbered ComponentRow). is_row_of other (client_name id product) c ≡ true → option_flatten (named c.row.component chosen.0.actions) ≡ Some MakeAbsent) ordered
  taken product other =
      taken_by component id chosen.0.actions product other ordered absent
      (all_ordered (λ (c : ComponentRow). c.component) (λ (r : ComponentRow). is_client (client_name id product) other r.component_id ≡ true → component ≡ r.component) g.rows.component
      (clients_named component id product other id_is g.rows.component tidy.lawful.codes_are (ids_named component id g.rows.component tidy.lawful.ids there)))

  own_gone : get w.world.machine (client_name id own) ≡ None
  own_gone =
      walked.seen.taken ran chosen.0 chosen.1 (client_name id own) (begins_client_name id own) (other_client id own the_system tidy.code zero_is_code tidy.not_system) (taken own own)
      (tidy.components (λ (r : ComponentRow). is_client (client_name id own) own r.component_id) ∙ any_client component id own g.rows.component there)

  free : has_other_client g.former own (Some (record { number = id })) ≡ false
  free = free_of g component id g.rows.component (named_ids component id g.rows.component tidy.lawful.components there) (leaving_may g w.world component walked.sound.selected leaving)

  other_gone : IsMachine g.former → (product : ℕ) → IsCode product → (product ≡ own → ⊥) → client_at w.world.machine id product ≡ None
  other_gone machine product code isnt =
      ap as_client (walked.seen.still ran chosen.0 chosen.1 (client_name id product) (begins_client_name id product) (other_client id product own code tidy.code isnt) (taken product the_system))
      ∙ no_client g.former machine own id product id_is code isnt free

  all_gone : IsMachine g.former → (product : ℕ) → IsCode product → client_at w.world.machine id product ≡ None
  all_gone machine product code = by (product == own) refl
    where
      by : (b : Bool) → (product == own) ≡ b → client_at w.world.machine id product ≡ None
      by true e = let same : product ≡ own = grind (arith, nat_tests, e) in ap (λ (n : ℕ). client_at w.world.machine id n) same ∙ ap as_client own_gone
      by false e = other_gone machine product code (λ same. grind (arith, nat_tests, e, same))

pub last_clients : LastClientsGo
last_clients g made ran component id product code leaving there =
    let tidy = tidy_of g made.loaded in
    let done = walk_done g made.unrefused in
    let walked = walked_end g tidy _ done in
    ap (λ (m : Machine). client_at m id product) (last_is g _ done walked.sound)
    ∙ all_gone g tidy _ walked (subst (λ (w : Walked). is_among (codes "ProcessComponents") w.begun ≡ true) done.whole ran) component id
    (subst (λ (w : Walked). leaves w.world component ≡ true) done.whole leaving) there made.former product code
