-- What a package that loads has for a walk over it, by the rules of its tables.
use Rattle.std.proofs.Common.{◌≡◌, Bool, false, ◌||◌, List, [], ◌∷◌, map, codes, Option, Some, None, refl, sym, ap, ◌∙◌, arith}
use Rattle.std.specs.List.{list_any, AllByRecursion}
use Rattle.mi_text.specs.Maps.{is_among}
use Rattle.mi_schema.specs.TableRows.{Rows, Numbered, in_key_order, table_value, product_code}
use Rattle.mi_schema.specs.declared.typed_rows.ComponentRow.{ComponentRow}
use Rattle.mi_schema.specs.declared.typed_rows.FeatureRow.{FeatureRow}
use Rattle.mi_schema.specs.declared.typed_rows.InstallExecuteSequenceRow.{InstallExecuteSequenceRow}
use Rattle.mi_model.specs.World.{Given, Action}
use Rattle.mi_model.specs.ClientRows.{the_system}
use Rattle.mi_model.specs.States.{named}
use Rattle.mi_model.specs.Selecting.{component_order, feature_order}
use Rattle.mi_model.specs.Walk.{Walked}
use Rattle.mi_laws.specs.PlainLaws.{HasProductCode}
use Rattle.mi_laws.specs.Clients.{IsCode}
use Rattle.mi_laws.specs.Walks.{IsLoaded}
use Rattle.mi_laws.proofs.KeyOrderLemmas.{any_ordered, named_ordered}
use Rattle.mi_laws.proofs.PlainCodeLemmas.{code_there}
use Rattle.mi_laws.proofs.SequenceLemmas.{is_fresh}
use Rattle.mi_laws.proofs.TableLemmas.{AreLawful, loaded_lawful}
use Rattle.mi_laws.proofs.UnrefusedLemmas.{IsNext}

pub record IsTidy (g : Given) : Type 0 where
  pub lawful : AreLawful g.rows
  pub code : IsCode (product_code g.rows)
  pub not_system : product_code g.rows ≡ the_system → ⊥
  -- rows in key order are all rows of the table
  pub components : (test : ComponentRow → Bool) → list_any (λ (c : Numbered ComponentRow). test c.row) (in_key_order (λ (c : ComponentRow). c.component) g.rows.component) ≡ list_any test g.rows.component
  pub features : (test : FeatureRow → Bool) → list_any test (feature_order g.rows) ≡ false → list_any test g.rows.feature ≡ false
  -- the action of a component is found by its name
  pub actions : (f : ComponentRow → Option Action) → AllByRecursion (λ (c : Numbered ComponentRow). named c.row.component (map (λ (r : ComponentRow). (r.component, f r)) (component_order g.rows)) ≡ Some (f c.row)) (in_key_order (λ (c : ComponentRow). c.component) g.rows.component)
  -- no action is begun twice
  pub fresh : (w : Walked) (r : InstallExecuteSequenceRow) → IsNext g w r → w.refusal ≡ None → is_among r.action w.begun ≡ false

any_map : {R : Type 0} (test : R → Bool) (rows : List (Numbered R)) → list_any test (map (λ (c : Numbered R). c.row) rows) ≡ list_any (λ (c : Numbered R). test c.row) rows
any_map test [] = refl
any_map test (c ∷ rows) = ap (λ b. test c.row || b) (any_map test rows)

code_of_rows : (rows : Rows) → HasProductCode rows → IsCode (product_code rows) × (product_code rows ≡ the_system → ⊥)
unfolding product_code
code_of_rows rows has =
    let there = code_there (table_value rows (codes "ProductCode")) has in
    (there.1, λ zero. absurd (let above = there.0 in omega (arith, above, zero)))

pub tidy_of : (g : Given) → IsLoaded g → IsTidy g
tidy_of g loaded =
    let lawful = loaded_lawful g loaded in
    let code = code_of_rows g.rows lawful.product in
    record {
      lawful = lawful;
      code = code.0;
      not_system = code.1;
      components = λ test. any_ordered (λ (c : ComponentRow). c.component) test g.rows.component lawful.components;
      features = λ test none. sym (any_ordered (λ (f : FeatureRow). f.feature) test g.rows.feature lawful.features) ∙ sym (any_map test (in_key_order (λ (f : FeatureRow). f.feature) g.rows.feature)) ∙ none;
      actions = λ f. named_ordered (λ (c : ComponentRow). c.component) f g.rows.component;
      fresh = is_fresh g lawful.actions;
    }
