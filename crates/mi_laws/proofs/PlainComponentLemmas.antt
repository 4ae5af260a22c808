-- The rows of ProcessComponents are plain: a component's clients, then its count.
use Rattle.std.proofs.Common.{◌≡◌, Bool, true, false, cond, ◌||◌, [], ◌∷◌, ◌++◌, map, Option, Some, None, refl, ap, ◌∙◌}
use Rattle.std.specs.Prelude.{Result, Ok, IfOk}
use Rattle.mi_text.specs.Maps.{Name}
use Rattle.mi_text.specs.declared.guid.Guid.{Guid}
use Rattle.mi_base.specs.declared.entry.Entry.{Entry}
use Rattle.mi_base.specs.declared.answers.Fault.{Fault}
use Rattle.mi_base.specs.Names.{client_name, value_name}
use Rattle.mi_schema.specs.declared.typed_rows.ComponentRow.{ComponentRow}
use Rattle.mi_schema.specs.TableRows.{Numbered, in_key_order, product_code}
use Rattle.mi_changes.specs.Touches.{Set}
use Rattle.mi_model.specs.Texts.{Text}
use Rattle.mi_model.specs.World.{World, Action, MakeLocal, MakeAbsent}
use Rattle.mi_model.specs.Asked.{leaves}
use Rattle.mi_model.specs.Conditions.{has}
use Rattle.mi_model.specs.States.{is_present}
use Rattle.mi_model.specs.ComponentRows.{action_in}
use Rattle.mi_model.specs.PhaseRows.{Touches}
use Rattle.mi_model.specs.Parents.{key_with_parents}
use Rattle.mi_model.specs.Prune.{key_seat}
use Rattle.mi_model.specs.RegistryGuards.{kept_keys, prune_keys}
use Rattle.mi_model.specs.SharedCounts.{shared_key, count_name, raised, lowered, is_counted}
use Rattle.mi_model.specs.ClientRows.{recorded_path, the_system, client, client_touch, client_touches, of_id, component_touches}
use Rattle.mi_model.specs.CountRows.{is_guarded, takes_count, count_touches, counted_by}
use Rattle.mi_model.specs.ProcessComponents.{processed, touched_counts, process_components}
use Rattle.mi_laws.specs.PlainLaws.{HasProductCode}
use Rattle.mi_laws.proofs.PlainCodeLemmas.{other_client}
use Rattle.mi_laws.proofs.PlainCountLemmas.{AreOnce, AreOf, none_of, one_of, two_of, both_of}
use Rattle.mi_laws.proofs.PlainParentLemmas.{begins, is_key, is_value, begin_apart, value_in_key}
use Rattle.mi_laws.proofs.PlainRowLemmas.{bound, behind, chosen, IsPlainPhase, each_plain, and_plain, pruning_plain}

abbrev is_client : Name → Bool
is_client q = begins 99 q

abbrev is_of_registry : Name → Bool
is_of_registry q = is_key q || is_value q

abbrev MayTouch : (Name → Bool) → Result Touches Fault → Type 0
MayTouch kind r = IfOk r (AreOf kind)

-- ---- clients

made_local : (w : World) (c : ComponentRow) (id : Guid) (path : Text) → HasProductCode w.given.rows → (permanent : Bool)
    → AreOf is_client (map (client_touch id path) (product_code w.given.rows ∷ cond permanent (the_system ∷ []) []))
unfolding client_name
made_local w c id path code true =
    two_of is_client (client_name id.number (product_code w.given.rows)) (client_name id.number the_system)
    (λ old. Some (client id (product_code w.given.rows) path)) (λ old. Some (client id the_system path)) refl refl (other_client id.number w.given.rows code)
made_local w c id path code false = one_of is_client (client_name id.number (product_code w.given.rows)) (λ old. Some (client id (product_code w.given.rows) path)) refl

clients_of : (w : World) (c : ComponentRow) (id : Guid) (action : Option Action) → HasProductCode w.given.rows → MayTouch is_client (client_touches w c id action)
unfolding client_name
clients_of w c id (Some MakeAbsent) code = one_of is_client (client_name id.number (product_code w.given.rows)) (λ old. None) refl
clients_of w c id (Some MakeLocal) code = behind (AreOf is_client) (recorded_path w c) _ (λ path. made_local w c id path code (has 16 c.attributes))
clients_of w c id None code = none_of is_client

component_of : (w : World) (c : ComponentRow) → HasProductCode w.given.rows → MayTouch is_client (component_touches w c)
unfolding component_touches
component_of w c code = by_id c.component_id
  where
    by_id : (id : Option Guid) → MayTouch is_client (of_id w c id)
    by_id None = none_of is_client
    by_id (Some id) = clients_of w c id (action_in w c.component) code

-- ---- counts

one_count : (path : Text) (change : Option Entry → Option Entry) → AreOf is_of_registry (Set (count_name path) change ∷ [])
unfolding value_name
one_count path change = one_of is_of_registry (count_name path) change refl

count_of : (w : World) (c : ComponentRow) (path : Text) (action : Action) → AreOf is_of_registry (count_touches w c path action)
unfolding value_name
count_of w c path MakeLocal =
    chosen (AreOf is_of_registry) (is_present w.given c) [] (key_with_parents 2 shared_key ++ Set (count_name path) (raised path) ∷ [])
    (none_of is_of_registry) (value_in_key 2 shared_key (count_name path) (raised path) refl)
count_of w c path MakeAbsent =
    chosen (AreOf is_of_registry) (leaves w c.component) (takes_count w path) (Set (count_name path) lowered ∷ [])
    (chosen (AreOf is_of_registry) (is_guarded w (count_name path)) [] (Set (count_name path) (λ old. None) ∷ []) (none_of is_of_registry) (one_count path (λ old. None)))
    (one_count path lowered)

counted_of : (w : World) (c : ComponentRow) (action : Option Action) → MayTouch is_of_registry (counted_by w c action)
counted_of w c None = none_of is_of_registry
counted_of w c (Some action) =
    chosen (MayTouch is_of_registry) (is_counted w.given.rows c) _ (Ok [])
    (behind (AreOf is_of_registry) (recorded_path w c) _ (λ path. count_of w c path action))
    (none_of is_of_registry)

-- ---- the phase

client_apart : (q : Name) → is_client q ≡ true → is_of_registry q ≡ false
client_apart q is = ap (λ (b : Bool). b || is_value q) (begin_apart 99 107 q refl is) ∙ begin_apart 99 118 q refl is

processed_once : (w : World) (c : ComponentRow) → HasProductCode w.given.rows → IfOk (processed w c) AreOnce
unfolding processed
processed_once w c code =
    bound (AreOf is_client) AreOnce (component_touches w c) _ (component_of w c code) (λ clients first.
    bound (AreOf is_of_registry) AreOnce (counted_by w c (action_in w c.component)) _ (counted_of w c (action_in w c.component)) (λ counts second.
    (both_of is_client is_of_registry clients counts client_apart first second).once))

pub process_components_plain : IsPlainPhase process_components
unfolding process_components prune_keys
process_components_plain w code =
    and_plain (map (λ (c : Numbered ComponentRow) m. processed w c.row) (in_key_order (λ (c : ComponentRow). c.component) w.given.rows.component)) (prune_keys w (touched_counts w) ∷ [])
    (each_plain (λ (c : Numbered ComponentRow) m. processed w c.row) (in_key_order (λ (c : ComponentRow). c.component) w.given.rows.component) (λ c m. processed_once w c.row code))
    (pruning_plain key_seat (touched_counts w) (kept_keys w), tt)
