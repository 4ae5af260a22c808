-- What a component makes of clients, and the product that PublishProduct leaves.
use Rattle.std.proofs.Common.{◌≡◌, Bool, true, false, cond, List, [], ◌∷◌, map, Option, Some, None, refl, sym, ap, ◌∙◌}
use Rattle.std.specs.Prelude.{◌&&◌, nat_eq, codes, Result, Ok, Err}
use Rattle.std.specs.List.{starts_with}
use Rattle.std.specs.Option.{option_map_or}
use Rattle.std.specs.FinMap.{get}
use Rattle.mi_text.specs.Maps.{Name, same_name}
use Rattle.mi_text.proofs.MapLemmas.{same_itself}
use Rattle.mi_text.specs.declared.guid.Guid.{Guid}
use Rattle.mi_base.specs.declared.entry.Entry.{Entry}
use Rattle.mi_base.specs.declared.answers.Fault.{Fault}
use Rattle.mi_base.specs.Machine.{Machine}
use Rattle.mi_base.specs.Names.{client_name, product_name}
use Rattle.mi_schema.specs.TableRows.{Numbered, product_code}
use Rattle.mi_schema.specs.declared.typed_rows.ComponentRow.{ComponentRow}
use Rattle.mi_changes.specs.Touches.{Touch, Set, left_at}
use Rattle.mi_model.specs.Texts.{Text}
use Rattle.mi_model.specs.World.{World, Action, MakeLocal, MakeAbsent}
use Rattle.mi_model.specs.Asked.{chosen}
use Rattle.mi_model.specs.Conditions.{has}
use Rattle.mi_model.specs.ComponentRows.{action_in}
use Rattle.mi_model.specs.PhaseRows.{Touches}
use Rattle.mi_model.specs.ClientRows.{recorded_path, the_system, client, client_touch, client_touches, of_id, component_touches}
use Rattle.mi_model.specs.PublishProduct.{product_after, publish_product}
use Rattle.mi_model_laws.specs.PhaseLaws.{IsAfter}
use Rattle.mi_model_laws.specs.RecordLaws.{client_made, client_after, client_by}
use Rattle.mi_model_laws.proofs.RowLemmas.{from_ok, bound, Acts, get-after_rows, left_by_rows}
use Rattle.mi_model_laws.proofs.NameLemmas.{no_client, unless_named}

-- ---- clients

-- the product's client, and behind it the system's where the component is permanent
both_made : (w : World) (c : ComponentRow) (id : Guid) (q : Name) (path : Text) (old : Option Entry)
    → left_at q (map (client_touch id path) (product_code w.given.rows ∷ cond (has 16 c.attributes) (the_system ∷ []) [])) old ≡ client_made w c id q (Ok path) old
both_made w c id q path old = elim (has 16 c.attributes) as (λ b.
    left_at q (map (client_touch id path) (product_code w.given.rows ∷ cond b (the_system ∷ []) [])) old
    ≡ cond (b && same_name q (client_name id.number the_system)) (Some (client id the_system path)) (cond (same_name q (client_name id.number (product_code w.given.rows))) (Some (client id (product_code w.given.rows) path)) old)) [
      | true ↦ refl
      | false ↦ refl
    ]

by_action : (w : World) (c : ComponentRow) (id : Guid) (q : Name) (action : Option Action) (ts : List (Touch Entry)) (old : Option Entry) → client_touches w c id action ≡ Ok ts → left_at q ts old ≡ client_after w c id q action old
by_action w c id q (Some MakeLocal) ts old e =
    let made = λ (path : Text). map (client_touch id path) (product_code w.given.rows ∷ cond (has 16 c.attributes) (the_system ∷ []) []) in
    let read = bound (recorded_path w c) (λ path. Ok (made path)) ts e in
    ap (λ (ts : List (Touch Entry)). left_at q ts old) (sym (from_ok (made read.value) ts read.rest))
    ∙ both_made w c id q read.value old
    ∙ ap (λ r. client_made w c id q r old) (sym read.is)
by_action w c id q (Some MakeAbsent) ts old e = ap (λ (ts : List (Touch Entry)). left_at q ts old) (sym (from_ok (Set (client_name id.number (product_code w.given.rows)) (λ o. None) ∷ []) ts e))
by_action w c id q None ts old e = ap (λ (ts : List (Touch Entry)). left_at q ts old) (sym (from_ok [] ts e))

by_id : (w : World) (c : ComponentRow) (q : Name) (id : Option Guid) (ts : List (Touch Entry)) (old : Option Entry) → of_id w c id ≡ Ok ts
    → left_at q ts old ≡ option_map_or (λ (id : Guid). client_after w c id q (action_in w c.component) old) id old
by_id w c q None ts old e = ap (λ (ts : List (Touch Entry)). left_at q ts old) (sym (from_ok [] ts e))
by_id w c q (Some id) ts old e = by_action w c id q (action_in w c.component) ts old e

pub component_acts : (w : World) (q : Name) (c : Numbered ComponentRow) → Acts q (λ m. component_touches w c.row) (client_by w q c)
unfolding component_touches
component_acts w q c m ts e old = by_id w c.row q c.row.component_id ts old e

pub client_elsewhere : (w : World) (q : Name) → starts_with nat_eq q (codes "c/") ≡ false → (c : Numbered ComponentRow) (old : Option Entry) → client_by w q c old ≡ old
client_elsewhere w q isnt c old = by_id c.row.component_id
  where
    by_path : (id : Guid) (r : Result Text Fault) → client_made w c.row id q r old ≡ old
    by_path id (Err fault) = refl
    by_path id (Ok path) =
        unless_named (has 16 c.row.attributes && same_name q (client_name id.number the_system)) _ _ (none_of (has 16 c.row.attributes) (same_name q (client_name id.number the_system)) (no_client q isnt id.number the_system))
        ∙ unless_named (same_name q (client_name id.number (product_code w.given.rows))) old _ (no_client q isnt id.number (product_code w.given.rows))
      where
        none_of : (a b : Bool) → b ≡ false → (a && b) ≡ false
        none_of true b e = e
        none_of false b e = refl

    by_action : (id : Guid) (action : Option Action) → client_after w c.row id q action old ≡ old
    by_action id (Some MakeLocal) = by_path id (recorded_path w c.row)
    by_action id (Some MakeAbsent) = unless_named (same_name q (client_name id.number (product_code w.given.rows))) old None (no_client q isnt id.number (product_code w.given.rows))
    by_action id None = refl

    by_id : (id : Option Guid) → option_map_or (λ (id : Guid). client_after w c.row id q (action_in w c.row.component) old) id old ≡ old
    by_id None = refl
    by_id (Some id) = by_action id (action_in w c.row.component)

-- ---- the product

abbrev product_touches : World → List Touches
product_touches w = (Set (product_name (product_code w.given.rows)) (λ old. product_after w.given.rows (chosen w (λ s. s.local_after))) ∷ []) ∷ []

product_at_name : (w : World) (m : Machine) → IsAfter publish_product w m → (q : Name)
    → get m q ≡ cond (same_name q (product_name (product_code w.given.rows))) (product_after w.given.rows (chosen w (λ s. s.local_after))) (get w.machine q)
unfolding publish_product
product_at_name w m after q =
    ap (λ n. get n q) after.machine
    ∙ get-after_rows w.machine after.rows q
    ∙ ap (λ (rows : List Touches). left_by_rows q rows (get w.machine q)) (sym (from_ok (product_touches w) after.rows after.touched))

pub product_is_published : (w : World) (m : Machine) → IsAfter publish_product w m → get m (product_name (product_code w.given.rows)) ≡ product_after w.given.rows (chosen w (λ s. s.local_after))
product_is_published w m after =
    let q = product_name (product_code w.given.rows) in
    product_at_name w m after q ∙ ap (λ b. cond b (product_after w.given.rows (chosen w (λ s. s.local_after))) (get w.machine q)) (same_itself q)

pub others_stay : (w : World) (m : Machine) → IsAfter publish_product w m → (q : Name) → same_name q (product_name (product_code w.given.rows)) ≡ false → get m q ≡ get w.machine q
others_stay w m after q apart = product_at_name w m after q ∙ ap (λ b. cond b (product_after w.given.rows (chosen w (λ s. s.local_after))) (get w.machine q)) apart
