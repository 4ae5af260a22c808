-- What a selection is: the actions of components, the features after, and those that leave.
use Rattle.std.proofs.Common.{◌≡◌, ℕ, Bool, true, false, cond, ◌||◌, List, [], ◌∷◌, map, Option, Some, None, Ok, refl, sym, ap, ◌∙◌}
use Rattle.std.specs.Prelude.{◌&&◌, not, codes, filter, option_map, option_and_then, unwrap_or, IfSome}
use Rattle.std.specs.List.{list_any, AllByRecursion}
use Rattle.std.specs.Option.{option_flatten}
use Rattle.mi_text.specs.Maps.{Name, same_name, is_among}
use Rattle.mi_text.specs.Lookups.{Lookups}
use Rattle.mi_dirs.specs.Places.{Place}
use Rattle.mi_schema.specs.TableRows.{Numbered, in_key_order, product_code}
use Rattle.mi_schema.specs.declared.typed_rows.ComponentRow.{ComponentRow}
use Rattle.mi_schema.specs.declared.typed_rows.FeatureRow.{FeatureRow}
use Rattle.mi_model.specs.World.{Given, World, Action, Selection, Costed}
use Rattle.mi_model.specs.Asked.{lookups_over, leaves}
use Rattle.mi_model.specs.Components.{has_id, has_other_client, is_made_absent}
use Rattle.mi_model.specs.ComponentRows.{choice_of, action_in}
use Rattle.mi_model.specs.Conditions.{has}
use Rattle.mi_model.specs.States.{named, is_present}
use Rattle.mi_model.specs.Selecting.{component_order, feature_order, record_of_product, is_feature_after, component_action, leaves_in, components_that, named_path, selected, select, setting, install_level_of, reinstall_mode_of, key_path}
use Rattle.mi_model.specs.SharedCounts.{has_other_count}
use Rattle.mi_model.specs.Refusals.{each, unless}
use Rattle.mi_model.specs.FeatureLists.{lists_fault}
use Rattle.mi_model_laws.proofs.RowLemmas.{from_ok, bound}
use Rattle.mi_model_laws.specs.RecordLaws.{component_rows}
use Rattle.mi_laws.specs.Walks.{Selects, HasSelected}
use Rattle.mi_laws.specs.Removal.{may_leave, component_may_leave}
use Rattle.mi_laws.proofs.KeyOrderLemmas.{any_within}
use Rattle.mi_laws.proofs.TidyLemmas.{IsTidy}
use Rattle.mi_laws.proofs.ActionLemmas.{gone_or_none, action_gone}

pub record IsSelection (g : Given) (L : Lookups) (dirs : List Place) (s : Selection) : Type 0 where
  pub level : ℕ
  pub actions : s.actions ≡ map (λ (c : ComponentRow). (c.component, component_action g L dirs level c)) (component_order g.rows)
  pub local_after : s.local_after ≡ map (λ (f : FeatureRow). f.feature) (filter (is_feature_after g L dirs level) (feature_order g.rows))
  pub leaving : s.leaving ≡ components_that g L dirs (leaves_in g L dirs level)

is_selection : (g : Given) (L : Lookups) (dirs : List Place) (s : Selection) → selected g L dirs ≡ Ok s → IsSelection g L dirs s
is_selection g L dirs s is =
    let a = bound (setting install_level_of L (codes "INSTALLLEVEL")) _ s is in
    let b = bound (setting reinstall_mode_of L (codes "REINSTALLMODE")) _ s a.rest in
    let c = bound (unless (lists_fault g.rows L) (each (named_path g L dirs) (component_order g.rows))) _ s b.rest in
    let same = from_ok _ s c.rest in
    record {
      level = a.value;
      actions = ap (λ (t : Selection). t.actions) (sym same);
      local_after = ap (λ (t : Selection). t.local_after) (sym same);
      leaving = ap (λ (t : Selection). t.leaving) (sym same);
    }

pub selection : (g : Given) (s : Selection) (sel : Selects g s) → IsSelection g (lookups_over g sel.props (Some sel.dirs) None) sel.dirs s
unfolding select
selection g s sel = is_selection g (lookups_over g sel.props (Some sel.dirs) None) sel.dirs s sel.is

-- ---- the actions, if no feature is installed after the run

none_mapped : (p : FeatureRow → Bool) (fs : List FeatureRow) → map (λ (f : FeatureRow). f.feature) (filter p fs) ≡ [] → list_any p fs ≡ false
none_mapped p [] e = refl
none_mapped p (f ∷ fs) e = by (p f) e (none_mapped p fs)
  where
    by : (b : Bool) → map (λ (f : FeatureRow). f.feature) (cond b (f ∷ filter p fs) (filter p fs)) ≡ [] → (map (λ (f : FeatureRow). f.feature) (filter p fs) ≡ [] → list_any p fs ≡ false) → (b || list_any p fs) ≡ false
    by true e rest = cc
    by false e rest = rest e

pub all_of : {X : Type 0} (P Q : X → Type 0) → ((x : X) → P x → Q x) → (xs : List X) → AllByRecursion P xs → AllByRecursion Q xs
all_of P Q so [] all = tt
all_of P Q so (x ∷ xs) all = (so x all.0, all_of P Q so xs all.1)

flat : (w : World) (c : Name) (s : Selection) (a : Option Action) → choice_of w ≡ Some s → named c s.actions ≡ Some a → action_in w c ≡ a
flat w c s a is named_is = by (choice_of w) is
  where
    by : (o : Option Selection) → o ≡ Some s → option_flatten (option_and_then (λ (s : Selection). named c s.actions) o) ≡ a
    by (Some t) e = let same : t ≡ s = cc in ap (λ (t : Selection). option_flatten (named c t.actions)) same ∙ ap option_flatten named_is
    by None e = cc

pub actions_gone : (w : World) (s : Selection) → choice_of w ≡ Some s → IsTidy w.given → Selects w.given s → s.local_after ≡ []
    → AllByRecursion (λ (c : Numbered ComponentRow). action_in w c.row.component ≡ gone_or_none (has_id c.row && is_present w.given c.row)) (component_rows w)
actions_gone w s chosen tidy sel none =
    let g = w.given in
    let L = lookups_over g sel.props (Some sel.dirs) None in
    let is = selection g s sel in
    let after = tidy.features (is_feature_after g L sel.dirs is.level) (none_mapped (is_feature_after g L sel.dirs is.level) (feature_order g.rows) (sym is.local_after ∙ none)) in
    all_of
    (λ (c : Numbered ComponentRow). named c.row.component (map (λ (r : ComponentRow). (r.component, component_action g L sel.dirs is.level r)) (component_order g.rows)) ≡ Some (component_action g L sel.dirs is.level c.row))
    (λ (c : Numbered ComponentRow). action_in w c.row.component ≡ gone_or_none (has_id c.row && is_present g c.row))
    (λ c e. flat w c.row.component s (component_action g L sel.dirs is.level c.row) chosen (ap (named c.row.component) is.actions ∙ e) ∙ action_gone g.rows L (record_of_product g) is.level (is_present g) after c.row)
    (component_rows w) (tidy.actions (component_action g L sel.dirs is.level))

-- ---- what leaves

pub both_of : (a b : Bool) → (a && b) ≡ true → (a ≡ true) × (b ≡ true)
both_of true b e = (refl, e)
both_of false b e = cc

may : (g : Given) (L : Lookups) (dirs : List Place) (level : ℕ) (c : Name) (r : ComponentRow) → same_name c r.component ≡ true → leaves_in g L dirs level r ≡ true → may_leave g c r ≡ true
may g L dirs level c r same is =
    let absent = is_made_absent (component_action g L dirs level r) in
    let free = not (has 16 r.attributes) in
    let alone = not (has_other_client g.former (product_code g.rows) r.component_id) in
    let one = both_of (absent && free && alone) (not (has_other_count g.rows g.former r (key_path g L dirs r))) is in
    let two = both_of (absent && free) alone one.0 in
    let three = both_of absent free two.0 in
    ap (λ a. a && free && alone) same ∙ ap (λ b. b && alone) three.1 ∙ two.1

module _ (g : Given) (L : Lookups) (dirs : List Place) (level : ℕ) (c : Name) where
  abbrev among : List (Numbered ComponentRow) → Bool
  among rows = is_among c (map (λ (r : ComponentRow). r.component) (filter (leaves_in g L dirs level) (map (λ (r : Numbered ComponentRow). r.row) rows)))

  abbrev any_may : List (Numbered ComponentRow) → Bool
  any_may rows = list_any (λ (r : Numbered ComponentRow). may_leave g c r.row) rows

  found : (rows : List (Numbered ComponentRow)) → among rows ≡ true → any_may rows ≡ true
  found [] e = e
  found (r ∷ rows) e = by (leaves_in g L dirs level r.row) refl e (found rows)
    where
      or_rest : (b : Bool) → b ≡ true → (a : Bool) → (a || b) ≡ true
      or_rest b is true = refl
      or_rest b is false = is

      by_name : (b : Bool) → same_name c r.row.component ≡ b → leaves_in g L dirs level r.row ≡ true → (b || among rows) ≡ true → (among rows ≡ true → any_may rows ≡ true) → any_may (r ∷ rows) ≡ true
      by_name true same is e rest = ap (λ a. a || any_may rows) (may g L dirs level c r.row same is)
      by_name false same is e rest = or_rest (any_may rows) (rest e) (may_leave g c r.row)

      by : (b : Bool) → leaves_in g L dirs level r.row ≡ b → is_among c (map (λ (r : ComponentRow). r.component) (cond b (r.row ∷ filter (leaves_in g L dirs level) (map (λ (r : Numbered ComponentRow). r.row) rows)) (filter (leaves_in g L dirs level) (map (λ (r : Numbered ComponentRow). r.row) rows)))) ≡ true
          → (among rows ≡ true → any_may rows ≡ true) → any_may (r ∷ rows) ≡ true
      by true is e rest = by_name (same_name c r.row.component) refl is e rest
      by false is e rest = or_rest (any_may rows) (rest e) (may_leave g c r.row)

pub leaving_may : (g : Given) (w : World) (c : Name) → HasSelected g w → leaves w c ≡ true → component_may_leave g c ≡ true
unfolding leaves
leaving_may g w c selected is = by w.costed selected is
  where
    by : (o : Option Costed) → IfSome (option_map (λ (c : Costed). c.choice) o) (Selects g) → is_among c (unwrap_or (option_map (λ (x : Costed). x.choice.leaving) o) []) ≡ true → component_may_leave g c ≡ true
    by None sel is = cc
    by (Some k) sel is =
        let s = selection g k.choice sel in
        any_within (λ (r : ComponentRow). r.component) (may_leave g c) g.rows.component
        (found g (lookups_over g sel.props (Some sel.dirs) None) sel.dirs s.level c (in_key_order (λ (r : ComponentRow). r.component) g.rows.component) (ap (is_among c) (sym s.leaving) ∙ is))
