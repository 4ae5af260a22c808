-- What becomes of components, by what is kept of their features.
use Rattle.std.proofs.Common.{◌≡◌, ℕ, suc, ◌&&◌, ◌||◌, not, Bool, true, false, cond, List, [], ◌∷◌, map, Option, Some, None, refl, sym, ap, subst, ◌∙◌, inl, inr}
use Rattle.std.specs.Prelude.{slice_get, filter, option_map, option_and_then, unwrap_or}
use Rattle.std.specs.List.{list_any}
use Rattle.std.specs.BTreeMap.{BTreeMap}
use Rattle.std.specs.BTreeSet.{BTreeSet, contains}
use Rattle.std.specs.Borrow.{Bor}
use Rattle.std.proofs.lemmas.Bool.{cases_Bool}
use Rattle.std.proofs.lemmas.Option.{slice_get-map}
use Rattle.mi_text.specs.Maps.{Name, name_cmp, same_name, is_among}
use Rattle.mi_text.specs.Lookups.{Lookups}
use Rattle.mi_text.specs.declared.guid.Guid.{Guid}
use Rattle.mi_text.proofs.MapLemmas.{from_same, same_itself}
use Rattle.mi_dirs.specs.Places.{Place}
use Rattle.mi_base.specs.Machine.{Machine}
use Rattle.mi_schema.specs.Checks.{row_with}
use Rattle.mi_schema.specs.TableRows.{Rows, row_of, product_code}
use Rattle.mi_schema.specs.declared.typed_rows.ComponentRow.{ComponentRow}
use Rattle.mi_schema.specs.declared.typed_rows.FeatureRow.{FeatureRow}
use Rattle.mi_schema.specs.declared.typed_rows.FeatureComponentsRow.{FeatureComponentsRow}
use Rattle.mi_model.specs.World as world
use Rattle.mi_model.specs.World.{Given}
use Rattle.mi_model.specs.Conditions.{holds}
use Rattle.mi_model.specs.States.{features_of, is_present, is_present_by}
use Rattle.mi_model.specs.Components as components
use Rattle.mi_model.specs.Components.{owners_of, has_id, has_other_client}
use Rattle.mi_model.specs.Selecting.{record_of_product, feature_request, is_feature_after}
use Rattle.mi_wishes.specs.declared.choice.FeatureChoice.{FeatureChoice}
use Rattle.mi_components.specs.declared.component.Action.{Action}
use Rattle.mi_components.specs.declared.component.Action.TheVariants as action
use Rattle.mi_components.specs.declared.component.ComponentChoice.{ComponentChoice}
use Rattle.mi_components.specs.declared.holders.Holders.{Holders}
use Rattle.mi_wishes.specs.Choices as choices
use Rattle.mi_components.specs.Actions.{told, action_kept, present_kept, choice_kept, component_choice}
use Rattle.mi_components.specs.Holders as held
use Rattle.mi_components.specs.Holders.{says, choice_named, held_at, said_in, any_says, all_say, AreHeld}
use Rattle.mi_features.specs.Records.{recorded_in}
use Rattle.mi_features.specs.Requests.{choice_to}
use Rattle.mi_wishes.proofs.ChainLemmas.{HasOwnKeys, row_of-with, row_of-own}
use Rattle.mi_features.proofs.RequestLemmas.{and_all, and_none}
use Rattle.mi_wishes.proofs.LineLemmas.{same_tests, and_both, and_left, and_right, any_there, any_at}

-- ---- some item of a list

any_filter : {A : Type 0} (p q : A → Bool) (xs : List A) → list_any p (filter q xs) ≡ list_any (λ x. q x && p x) xs
any_filter p q [] = refl
any_filter {A} p q (x ∷ xs) = by (q x) ∙ ap (λ b. (q x && p x) || b) (any_filter p q xs)
  where
    by : (b : Bool) → list_any p (cond b (x ∷ filter q xs) (filter q xs)) ≡ ((b && p x) || list_any p (filter q xs))
    by true = refl
    by false = refl

any_map : {A B : Type 0} (p : B → Bool) (f : A → B) (xs : List A) → list_any p (map f xs) ≡ list_any (λ x. p (f x)) xs
any_map p f [] = refl
any_map p f (x ∷ xs) = ap (λ b. p (f x) || b) (any_map p f xs)

any_same : {A : Type 0} (p q : A → Bool) (xs : List A) → ((x : A) → p x ≡ q x) → list_any p xs ≡ list_any q xs
any_same p q [] same = refl
any_same p q (x ∷ xs) same = ap (λ b. b || list_any p xs) (same x) ∙ ap (λ b. q x || b) (any_same p q xs same)

map_same : {A B : Type 0} (f g : A → B) (xs : List A) → ((x : A) → f x ≡ g x) → map f xs ≡ map g xs
map_same f g [] same = refl
map_same {A} {B} f g (x ∷ xs) same = ap (λ (b : B). b ∷ map f xs) (same x) ∙ ap (λ (l : List B). g x ∷ l) (map_same f g xs same)

-- ---- the features of a component

-- a feature passes, if it is there
abbrev found : (FeatureRow → Bool) → Option FeatureRow → Bool
found p None = false
found p (Some f) = p f

abbrev key : FeatureRow → Name
key f = f.feature

row_there : (fs : List FeatureRow) (q : Name) (f : FeatureRow) → row_of key fs q ≡ Some f → (k : ℕ) × (slice_get fs k ≡ Some f) × (q ≡ key f)
row_there [] q f e = cc
row_there (x ∷ fs) q f e = elim (cases_Bool (same_name q (key x))) [
  | inl on ↦ (let one : Some x ≡ Some f = sym (ap (λ b. cond b (Some x) (row_of key fs q)) on) ∙ e in
      let same : x ≡ f = cc in
      (0, one, from_same q (key x) on ∙ ap key same))
  | inr off ↦ let rest = row_there fs q f (sym (ap (λ b. cond b (Some x) (row_of key fs q)) off) ∙ e) in (suc rest.0, rest.1, rest.2)
]

among_of : (holding : List FeatureComponentsRow) (c q : Name) → is_among q (map (λ (r : FeatureComponentsRow). r.feature) (filter (λ (r : FeatureComponentsRow). same_name c r.component) holding)) ≡ list_any (λ (r : FeatureComponentsRow). same_name c r.component && same_name q r.feature) holding
among_of holding c q = any_map (same_name q) (λ (r : FeatureComponentsRow). r.feature) (filter (λ (r : FeatureComponentsRow). same_name c r.component) holding) ∙ any_filter (λ (r : FeatureComponentsRow). same_name q r.feature) (λ (r : FeatureComponentsRow). same_name c r.component) holding

module _ (fs : List FeatureRow) (own : HasOwnKeys key fs) (holding : List FeatureComponentsRow) (c : Name) (p : FeatureRow → Bool) where
  abbrev held_by_one : FeatureRow → Bool
  held_by_one f = is_among f.feature (map (λ (r : FeatureComponentsRow). r.feature) (filter (λ (r : FeatureComponentsRow). same_name c r.component) holding))

  abbrev passes : FeatureComponentsRow → Bool
  passes r = same_name c r.component && found p (row_of key fs r.feature)

  down : list_any (λ f. held_by_one f && p f) fs ≡ true → list_any passes holding ≡ true
  down e =
      let f = any_at (λ f. held_by_one f && p f) fs e in
      let r = any_at (λ (r : FeatureComponentsRow). same_name c r.component && same_name f.1.feature r.feature) holding (sym (among_of holding c f.1.feature) ∙ and_left (held_by_one f.1) (p f.1) f.3) in
      let is : f.1.feature ≡ r.1.feature = from_same f.1.feature r.1.feature (and_right (same_name c r.1.component) (same_name f.1.feature r.1.feature) r.3) in
      any_there passes holding r.0 r.1 r.2 (and_both (same_name c r.1.component) (found p (row_of key fs r.1.feature)) (and_left (same_name c r.1.component) (same_name f.1.feature r.1.feature) r.3)
      (ap (λ (q : Name). found p (row_of key fs q)) (sym is) ∙ ap (found p) (row_of-own key fs own f.0 f.1 f.2) ∙ and_right (held_by_one f.1) (p f.1) f.3))

  upward : list_any passes holding ≡ true → list_any (λ f. held_by_one f && p f) fs ≡ true
  upward e = let r = any_at passes holding e in by r.0 r.1 r.2 (and_left (same_name c r.1.component) (found p (row_of key fs r.1.feature)) r.3) (row_of key fs r.1.feature) refl (and_right (same_name c r.1.component) (found p (row_of key fs r.1.feature)) r.3)
    where
      by : (k : ℕ) (r : FeatureComponentsRow) → slice_get holding k ≡ Some r → same_name c r.component ≡ true → (o : Option FeatureRow) → row_of key fs r.feature ≡ o → found p o ≡ true → list_any (λ f. held_by_one f && p f) fs ≡ true
      by k r at of None there e = cc
      by k r at of (Some f) there e =
          let place = row_there fs r.feature f there in
          any_there (λ f. held_by_one f && p f) fs place.0 f place.1 (and_both (held_by_one f) (p f)
          (among_of holding c f.feature ∙ any_there (λ (x : FeatureComponentsRow). same_name c x.component && same_name f.feature x.feature) holding k r at (and_both (same_name c r.component) (same_name f.feature r.feature) of
          (ap (λ (q : Name). same_name f.feature q) place.2 ∙ same_itself f.feature)))
          e)

  -- a feature of a component passes exactly where a row of the component names one that does
  pub owners_any : list_any p (filter held_by_one fs) ≡ list_any passes holding
  owners_any = any_filter p held_by_one fs ∙ same_tests (list_any (λ f. held_by_one f && p f) fs) (list_any passes holding) down upward

-- ---- what is kept of a component's features

mapped_place : {A B : Type 0} (f : A → B) (xs : List A) (o : Option ℕ) → option_and_then (slice_get (map f xs)) o ≡ option_map f (option_and_then (slice_get xs) o)
mapped_place f xs None = refl
mapped_place f xs (Some k) = slice_get-map f xs k

says_recorded : (o : Option FeatureChoice) (b : Bool) → (says o b).recorded ≡ b
says_recorded None b = refl
says_recorded (Some c) b = refl

module _ (rows : Rows) (own : HasOwnKeys key rows.feature) (choice : FeatureRow → FeatureChoice) (made : List FeatureChoice) (is : made ≡ map choice rows.feature) (recorded : BTreeSet (List ℕ)) (tree : BTreeMap (Bor (List ℕ)) Holders) (are : AreHeld rows made recorded tree) where
  named-is : (q : Name) → choice_named rows.feature made q ≡ option_map choice (row_of key rows.feature q)
  named-is q =
      ap (λ (l : List FeatureChoice). option_and_then (slice_get l) (row_with (map key rows.feature) q)) is
      ∙ mapped_place choice rows.feature (row_with (map key rows.feature) q) ∙ ap (option_map choice) (sym (row_of-with key rows.feature q))

  -- what a choice says, a component's features say
  held_any : (part : Holders → Bool) (p : FeatureRow → Bool) → ((o : Option FeatureRow) (b : Bool) → part (says (option_map choice o) b) ≡ found p o)
      → (c : ComponentRow) → any_says rows.feature made recorded part rows.feature_components c.component ≡ list_any p (owners_of rows c)
  held_any part p says_so c =
      any_same (λ (r : FeatureComponentsRow). same_name c.component r.component && part (said_in rows.feature made recorded r)) (λ (r : FeatureComponentsRow). same_name c.component r.component && found p (row_of key rows.feature r.feature)) rows.feature_components
      (λ r. ap (λ b. same_name c.component r.component && b) (ap (λ (o : Option FeatureChoice). part (says o (contains name_cmp recorded r.feature))) (named-is r.feature) ∙ says_so (row_of key rows.feature r.feature) (contains name_cmp recorded r.feature)))
      ∙ sym (owners_any rows.feature own rows.feature_components c.component p)

  pub local-any : (c : ComponentRow) → (held_at tree c.component).local ≡ list_any (λ f. held.is_local (choice f).request) (owners_of rows c)
  local-any c = ap (λ (h : Holders). h.local) (are c.component) ∙ held_any (λ h. h.local) (λ f. held.is_local (choice f).request) by c
    where
      by : (o : Option FeatureRow) (b : Bool) → (says (option_map choice o) b).local ≡ found (λ f. held.is_local (choice f).request) o
      by None b = refl
      by (Some f) b = refl

  pub reinstalled-any : (c : ComponentRow) → (held_at tree c.component).reinstalled ≡ list_any (λ f. held.is_reinstall (choice f).request) (owners_of rows c)
  reinstalled-any c = ap (λ (h : Holders). h.reinstalled) (are c.component) ∙ held_any (λ h. h.reinstalled) (λ f. held.is_reinstall (choice f).request) by c
    where
      by : (o : Option FeatureRow) (b : Bool) → (says (option_map choice o) b).reinstalled ≡ found (λ f. held.is_reinstall (choice f).request) o
      by None b = refl
      by (Some f) b = refl

  pub wanted-any : (c : ComponentRow) → (held_at tree c.component).wanted ≡ list_any (λ f. (choice f).local_after) (owners_of rows c)
  wanted-any c = ap (λ (h : Holders). h.wanted) (are c.component) ∙ held_any (λ h. h.wanted) (λ f. (choice f).local_after) by c
    where
      by : (o : Option FeatureRow) (b : Bool) → (says (option_map choice o) b).wanted ≡ found (λ f. (choice f).local_after) o
      by None b = refl
      by (Some f) b = refl

  pub recorded-any : (names : List Name) → ((q : Name) → contains name_cmp recorded q ≡ is_among q names) → (c : Name) → (held_at tree c).recorded ≡ list_any (λ f. is_among f names) (features_of rows c)
  recorded-any names in_names c =
      ap (λ (h : Holders). h.recorded) (are c)
      ∙ any_same (λ (r : FeatureComponentsRow). same_name c r.component && (said_in rows.feature made recorded r).recorded) (λ (r : FeatureComponentsRow). same_name c r.component && is_among r.feature names) rows.feature_components
      (λ r. ap (λ b. same_name c r.component && b) (says_recorded (choice_named rows.feature made r.feature) (contains name_cmp recorded r.feature) ∙ in_names r.feature))
      ∙ sym (any_map (λ f. is_among f names) (λ (r : FeatureComponentsRow). r.feature) (filter (λ (r : FeatureComponentsRow). same_name c r.component) rows.feature_components)
      ∙ any_filter (λ (r : FeatureComponentsRow). is_among r.feature names) (λ (r : FeatureComponentsRow). same_name c r.component) rows.feature_components)

-- ---- actions

told_if : (a b : Bool) → told (cond a (Some world.MakeLocal) (cond b (Some world.MakeAbsent) None)) ≡ cond a (Some action.MakeLocal) (cond b (Some action.MakeAbsent) None)
told_if true b = refl
told_if false true = refl
told_if false false = refl

either_shuffled : (h a b x y : Bool) → ((a || (h && b)) || (x || (h && y))) ≡ ((a || x) || (h && (b || y)))
either_shuffled h true b x y = refl
either_shuffled h false b true y = by (h && b)
  where
    by : (z : Bool) → (z || true) ≡ true
    by true = refl
    by false = refl
either_shuffled true false b false y = refl
either_shuffled false false b false y = refl

module _ (rows : Rows) (L : Lookups) (request : FeatureRow → Option world.Request) (local_after : FeatureRow → Bool) (present : ComponentRow → Bool) where
  asks_one : (c : ComponentRow) (o : Option world.Request) → components.asks rows L request local_after present c o ≡ (held.is_local (choices.told o) || (has_id c && held.is_reinstall (choices.told o)))
  asks_one c None = and_none (has_id c)
  asks_one c (Some world.Local) = refl
  asks_one c (Some world.Absent) = and_none (has_id c)
  asks_one c (Some world.Reinstall) = and_all (has_id c)

  asked_any : (c : ComponentRow) (fs : List FeatureRow) → list_any (λ f. components.asks rows L request local_after present c (request f)) fs
      ≡ (list_any (λ f. held.is_local (choices.told (request f))) fs || (has_id c && list_any (λ f. held.is_reinstall (choices.told (request f))) fs))
  asked_any c [] = and_none (has_id c)
  asked_any c (f ∷ fs) =
      ap (λ b. b || list_any (λ f. components.asks rows L request local_after present c (request f)) fs) (asks_one c (request f))
      ∙ ap (λ b. (held.is_local (choices.told (request f)) || (has_id c && held.is_reinstall (choices.told (request f)))) || b) (asked_any c fs)
      ∙ either_shuffled (has_id c) (held.is_local (choices.told (request f))) (held.is_reinstall (choices.told (request f))) (list_any (λ f. held.is_local (choices.told (request f))) fs) (list_any (λ f. held.is_reinstall (choices.told (request f))) fs)

  -- an action by what the features of its component say
  pub action-kept : (c : ComponentRow) (h : Holders) → h.local ≡ list_any (λ f. held.is_local (choices.told (request f))) (owners_of rows c) → h.reinstalled ≡ list_any (λ f. held.is_reinstall (choices.told (request f))) (owners_of rows c)
      → h.wanted ≡ list_any local_after (owners_of rows c) → action_kept (has_id c) (holds L c.condition) (present c) h ≡ told (components.action_of rows L request local_after present c)
  unfolding components.action_of
  action-kept c h local reinstalled wanted =
      ap (λ b. cond ((holds L c.condition || (has_id c && present c)) && b) (Some action.MakeLocal) (cond (has_id c && present c && not h.wanted) (Some action.MakeAbsent) None))
      (ap (λ b. b || (has_id c && h.reinstalled)) local ∙ ap (λ b. list_any (λ f. held.is_local (choices.told (request f))) (owners_of rows c) || (has_id c && b)) reinstalled ∙ sym (asked_any c (owners_of rows c)))
      ∙ ap (λ b. cond (components.is_enabled rows L request local_after present c && components.is_asked_for rows L request local_after present c) (Some action.MakeLocal) (cond (has_id c && present c && not b) (Some action.MakeAbsent) None)) wanted
      ∙ sym (told_if (components.is_enabled rows L request local_after present c && components.is_asked_for rows L request local_after present c) (has_id c && present c && not (components.is_wanted rows L request local_after present c)))

module _ (g : Given) (L : Lookups) (dirs : List Place) (level : ℕ) (own : HasOwnKeys key g.rows.feature) (asked : List FeatureChoice) (is : asked ≡ map (choice_to g.rows L (record_of_product g) level) g.rows.feature)
    (recorded : BTreeSet (List ℕ)) (in_record : (q : Name) → contains name_cmp recorded q ≡ is_among q (unwrap_or (record_of_product g) [])) (tree : BTreeMap (Bor (List ℕ)) Holders) (are : AreHeld g.rows asked recorded tree) where
  present-kept : (c : Name) (id : Option Guid) → present_kept g.former (product_code g.rows) (held_at tree c).recorded id ≡ is_present_by g c id
  present-kept c (Some id) = refl
  present-kept c None = recorded-any g.rows own (choice_to g.rows L (record_of_product g) level) asked is recorded tree are (unwrap_or (record_of_product g) []) in_record c

  abbrev kept_as : ComponentRow → Option Action → Bool → ComponentChoice
  kept_as c action present = record { action = action; present = present; other_client = has_other_client g.former (product_code g.rows) c.component_id }

  pub choice-kept : (c : ComponentRow) → choice_kept g.former (product_code g.rows) L tree c ≡ component_choice g L dirs level c
  unfolding is_present
  choice-kept c =
      ap (λ p. kept_as c (action_kept (has_id c) (holds L c.condition) p (held_at tree c.component)) p) (present-kept c.component c.component_id)
      ∙ ap (λ (a : Option Action). kept_as c a (is_present g c))
      (action-kept g.rows L (feature_request g L dirs level) (is_feature_after g L dirs level) (is_present g) c (held_at tree c.component)
      (local-any g.rows own (choice_to g.rows L (record_of_product g) level) asked is recorded tree are c)
      (reinstalled-any g.rows own (choice_to g.rows L (record_of_product g) level) asked is recorded tree are c)
      (wanted-any g.rows own (choice_to g.rows L (record_of_product g) level) asked is recorded tree are c))

-- the same of all components, by the rows and the machine that the program has
pub choices-kept : (g : Given) (L : Lookups) (dirs : List Place) (level : ℕ) (rows : Rows) (m : Machine) (code : ℕ) (asked : List FeatureChoice) (recorded : BTreeSet (List ℕ)) (tree : BTreeMap (Bor (List ℕ)) Holders)
    → g.rows ≡ rows → g.former ≡ m → code ≡ product_code rows → HasOwnKeys key rows.feature → asked ≡ map (choice_to g.rows L (record_of_product g) level) g.rows.feature
    → ((q : Name) → contains name_cmp recorded q ≡ is_among q (unwrap_or (recorded_in m rows) [])) → AreHeld rows asked recorded tree
    → map (choice_kept m code L tree) rows.component ≡ map (component_choice g L dirs level) g.rows.component
choices-kept g L dirs level rows m code asked recorded tree the_rows the_machine the_code own is in_record are =
    ap (λ (n : Machine). map (choice_kept n code L tree) rows.component) (sym the_machine)
    ∙ ap (λ n. map (choice_kept g.former n L tree) rows.component) the_code
    ∙ ap (λ (r : Rows). map (choice_kept g.former (product_code r) L tree) r.component) (sym the_rows)
    ∙ map_same (choice_kept g.former (product_code g.rows) L tree) (component_choice g L dirs level) g.rows.component
    (choice-kept g L dirs level (subst (λ (r : Rows). HasOwnKeys key r.feature) (sym the_rows) own) asked is recorded
    (λ q. in_record q ∙ ap (λ (n : Machine). is_among q (unwrap_or (recorded_in n rows) [])) (sym the_machine) ∙ ap (λ (r : Rows). is_among q (unwrap_or (recorded_in g.former r) [])) (sym the_rows))
    tree (subst (λ (r : Rows). AreHeld r asked recorded tree) (sym the_rows) are))
