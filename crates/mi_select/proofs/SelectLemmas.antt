-- The selection, of what is kept of features and components.
use Rattle.std.proofs.Common.{◌≡◌, ℕ, Bool, true, false, cond, List, [], ◌∷◌, map, length, Option, Some, None, refl, sym, ap, ◌∙◌}
use Rattle.std.specs.Prelude.{filter, option_map, codes, Result, Ok, Err}
use Rattle.std.proofs.lemmas.List.{length-map}
use Rattle.std.specs.FinMap.{empty}
use Rattle.mi_text.specs.Maps.{Name}
use Rattle.mi_text.specs.Lookups.{Lookups}
use Rattle.mi_base.specs.Machine.{Machine}
use Rattle.mi_base.specs.declared.answers.Fault.{Fault}
use Rattle.mi_dirs.specs.Places.{Place}
use Rattle.mi_fver.specs.declared.mode.Mode.{Mode}
use Rattle.mi_schema.specs.declared.typed_rows.ComponentRow.{ComponentRow}
use Rattle.mi_schema.specs.declared.typed_rows.FeatureRow.{FeatureRow}
use Rattle.mi_schema.specs.TableRows.{Rows, product_code}
use Rattle.mi_model.specs.World as world
use Rattle.mi_model.specs.World.{Given, Selection}
use Rattle.mi_model.specs.Texts.{Text}
use Rattle.mi_model.specs.Components.{has_other_client, is_coming, is_leaving, is_kept}
use Rattle.mi_model.specs.SharedCounts.{has_other_count}
use Rattle.mi_model.specs.States.{is_present}
use Rattle.mi_model.specs.FeatureLists.{lists_fault}
use Rattle.mi_model.specs.KeyPaths.{KeyPath, key_path_text, is_there}
use Rattle.mi_model.specs.Refusals.{◌>>=◌, each, unless}
use Rattle.mi_model.specs.Selecting.{setting, install_level_of, reinstall_mode_of, component_order, feature_order, record_of_product, feature_request, is_feature_after, component_action, key_path, holds_there, comes_in, leaves_in, keeps_in, components_that, named_path, selected}
use Rattle.mi_wishes.specs.declared.choice.FeatureChoice.{FeatureChoice}
use Rattle.mi_components.specs.declared.component.ComponentChoice.{ComponentChoice}
use Rattle.mi_wishes.specs.declared.error.SelectError.{SelectError}
use Rattle.mi_wishes.specs.declared.error.SelectError.TheVariants as error
use Rattle.mi_select.specs.declared.selection.Chosen.{Chosen}
use Rattle.mi_wishes.specs.Answers.{Gives}
use Rattle.mi_wishes.specs.Choices as choices
use Rattle.mi_wishes.specs.Choices.{request_to}
use Rattle.mi_components.specs.Actions as actions
use Rattle.mi_components.specs.Actions.{as_action, component_choice}
use Rattle.mi_select.specs.Chosen.{leaves_by, chosen_by, chosen_entry}
use Rattle.mi_features.specs.Records.{recorded_in}
use Rattle.mi_features.specs.Requests.{choice_to, requested}
use Rattle.mi_select.specs.Selections.{names_that, selection_of}
use Rattle.mi_features.proofs.RequestLemmas.{answered, requested_says}

-- ---- what the program tells

request_back : (r : Option world.Request) → option_map request_to (choices.told r) ≡ r
request_back None = refl
request_back (Some world.Local) = refl
request_back (Some world.Absent) = refl
request_back (Some world.Reinstall) = refl

action_back : (a : Option world.Action) → as_action (actions.told a) ≡ a
action_back None = refl
action_back (Some world.MakeLocal) = refl
action_back (Some world.MakeAbsent) = refl

-- of each, by its name
shown-named : {X V W : Type 0} (name : X → Name) (value : X → V) (f : V → W) (to : X → W) (xs : List X) → ((x : X) → f (value x) ≡ to x) → map {B = Name × W} (λ (e : Name × V). (e.0, f e.1)) (map {B = Name × V} (λ x. (name x, value x)) xs) ≡ map (λ x. (name x, to x)) xs
shown-named name value f to [] is = refl
shown-named {V = V} {W = W} name value f to (x ∷ xs) is =
    ap (λ (w : W). (name x, w) ∷ map {B = Name × W} (λ (e : Name × V). (e.0, f e.1)) (map {B = Name × V} (λ x. (name x, value x)) xs)) (is x) ∙ ap (λ (l : List (Name × W)). (name x, to x) ∷ l) (shown-named name value f to xs is)

-- those that pass
names-named : {X V : Type 0} (name : X → Name) (value : X → V) (test : V → Bool) (xs : List X) → names_that test (map (λ x. (name x, value x)) xs) ≡ map name (filter (λ x. test (value x)) xs)
names-named name value test [] = refl
names-named {X} {V} name value test (x ∷ xs) = by (test (value x)) (names-named name value test xs)
  where
    kept : List (Name × V)
    kept = filter (λ e. test e.1) (map (λ x. (name x, value x)) xs)

    passing : List X
    passing = filter (λ x. test (value x)) xs

    by : (b : Bool) → map (λ (e : Name × V). e.0) kept ≡ map name passing → map (λ (e : Name × V). e.0) (cond b ((name x, value x) ∷ kept) kept) ≡ map name (cond b (x ∷ passing) passing)
    by true so = ap (λ (l : List Name). name x ∷ l) so
    by false so = so

module _ (g : Given) (L : Lookups) (dirs : List Place) where
  -- a selection, or the first refusal: of the settings, of the lists, and of the key paths
  abbrev made_of : Result ℕ Fault → Result Mode Fault → Option Fault → Result (List (Name × Text)) Fault → Result Selection Fault
  made_of a b o paths = do
    level ← a
    mode ← b
    key_paths ← unless o paths
    Ok (record {
      requests = map (λ (f : FeatureRow). (f.feature, feature_request g L dirs level f)) (feature_order g.rows);
      local_after = map (λ (f : FeatureRow). f.feature) (filter (is_feature_after g L dirs level) (feature_order g.rows));
      actions = map (λ (c : ComponentRow). (c.component, component_action g L dirs level c)) (component_order g.rows);
      coming = components_that g L dirs (comes_in g L dirs level);
      leaving = components_that g L dirs (leaves_in g L dirs level);
      kept = components_that g L dirs (keeps_in g L dirs level);
      key_paths = key_paths;
      mode = mode;
    })

  abbrev paths : Result (List (Name × Text)) Fault
  paths = each (named_path g L dirs) (component_order g.rows)

  -- ---- components

  module _ (level : ℕ) where
    abbrev text_of : Result KeyPath Fault → Text
    text_of (Ok p) = key_path_text p
    text_of (Err f) = []

    -- what is kept of a component
    abbrev chosen_to : ComponentRow → Chosen
    chosen_to c = record {
      choice = component_choice g L dirs level c;
      coming = comes_in g L dirs level c;
      leaving = leaves_in g L dirs level c;
      kept = keeps_in g L dirs level c;
      key_path = text_of (key_path g L dirs c);
    }

    abbrev entry_of : ComponentRow → Result (Name × Chosen) Fault
    entry_of = chosen_entry g.former g.rows dirs L (component_choice g L dirs level)

    chosen_is : (c : ComponentRow) (p : KeyPath) → key_path g L dirs c ≡ Ok p → chosen_by g.former g.rows c (component_choice g L dirs level c) p ≡ chosen_to c
    chosen_is c p at = λ i. record { choice = component_choice g L dirs level c; coming = coming i; leaving = leaving i; kept = kept i; key_path = text i }
      where
        others : Result KeyPath Fault → Bool
        others k = has_other_count g.rows g.former c k

        leaving : leaves_by g.former g.rows c (component_choice g L dirs level c) p ≡ leaves_in g L dirs level c
        leaving =
            ap (λ a. is_leaving c a (has_other_client g.former (product_code g.rows) c.component_id) (others (Ok p))) (action_back (component_action g L dirs level c))
            ∙ ap (λ k. is_leaving c (component_action g L dirs level c) (has_other_client g.former (product_code g.rows) c.component_id) (others k)) (sym at)

        kept : is_kept (as_action (actions.told (component_action g L dirs level c))) (is_present g c) (leaves_by g.former g.rows c (component_choice g L dirs level c) p) ≡ keeps_in g L dirs level c
        kept =
            ap (λ a. is_kept a (is_present g c) (leaves_by g.former g.rows c (component_choice g L dirs level c) p)) (action_back (component_action g L dirs level c))
            ∙ ap (is_kept (component_action g L dirs level c) (is_present g c)) leaving

        coming : is_coming c (as_action (actions.told (component_action g L dirs level c))) (is_there g.former p) ≡ comes_in g L dirs level c
        coming = ap (λ a. is_coming c a (is_there g.former p)) (action_back (component_action g L dirs level c)) ∙ ap (λ k. is_coming c (component_action g L dirs level c) (holds_there g L dirs k)) (sym at)

        text : key_path_text p ≡ text_of (key_path g L dirs c)
        text = ap text_of (sym at)

    abbrev path_shown : Name × Chosen → Name × Text
    path_shown e = (e.0, e.1.key_path)

    -- one component more
    abbrev more : ComponentRow → Result KeyPath Fault → Result (List (Name × Chosen)) Fault → Result (List (Name × Chosen)) Fault
    more c k r = (k >>= λ p. Ok (c.component, chosen_by g.former g.rows c (component_choice g L dirs level c) p)) >>= λ y. r >>= λ ys. Ok (y ∷ ys)

    abbrev more_paths : ComponentRow → Result KeyPath Fault → Result (List (Name × Text)) Fault → Result (List (Name × Text)) Fault
    more_paths c k r = (k >>= λ p. Ok (c.component, key_path_text p)) >>= λ y. r >>= λ ys. Ok (y ∷ ys)

    chosen_more : (c : ComponentRow) (cs : List ComponentRow) (made : List (Name × Chosen)) (k : Result KeyPath Fault) → key_path g L dirs c ≡ k → (r : Result (List (Name × Chosen)) Fault)
        → ((ms : List (Name × Chosen)) → r ≡ Ok ms → (ms ≡ map (λ (c : ComponentRow). (c.component, chosen_to c)) cs) × (each (named_path g L dirs) cs ≡ Ok (map path_shown ms)))
        → more c k r ≡ Ok made → (made ≡ map (λ (c : ComponentRow). (c.component, chosen_to c)) (c ∷ cs)) × (more_paths c k (each (named_path g L dirs) cs) ≡ Ok (map path_shown made))
    chosen_more c cs made (Err f) at r so is = cc
    chosen_more c cs made (Ok p) at (Err f) so is = cc
    chosen_more c cs made (Ok p) at (Ok ms) so is =
        let rest = so ms refl in
        let these : (c.component, chosen_by g.former g.rows c (component_choice g L dirs level c) p) ∷ ms ≡ made = cc in (
          sym these ∙ ap (λ (x : Chosen). (c.component, x) ∷ ms) (chosen_is c p at) ∙ ap (λ (l : List (Name × Chosen)). (c.component, chosen_to c) ∷ l) rest.0,
          ap (λ (r : Result (List (Name × Text)) Fault). r >>= λ ys. Ok ((c.component, key_path_text p) ∷ ys)) rest.1 ∙ ap (λ (l : List (Name × Chosen)). Ok (map path_shown l)) these,
        )

    -- what is kept of components in order, where no key path is refused
    each_chosen : (cs : List ComponentRow) (made : List (Name × Chosen)) → each entry_of cs ≡ Ok made → (made ≡ map (λ (c : ComponentRow). (c.component, chosen_to c)) cs) × (each (named_path g L dirs) cs ≡ Ok (map path_shown made))
    each_chosen [] made is = let none : [] ≡ made = cc in (sym none, ap (λ (l : List (Name × Chosen)). Ok (map path_shown l)) none)
    each_chosen (c ∷ cs) made is = chosen_more c cs made (key_path g L dirs c) refl (each entry_of cs) (each_chosen cs) is

    refused_more : (c : ComponentRow) (cs : List ComponentRow) (f : Fault) (k : Result KeyPath Fault) (r : Result (List (Name × Chosen)) Fault) → ((f : Fault) → r ≡ Err f → each (named_path g L dirs) cs ≡ Err f)
        → more c k r ≡ Err f → more_paths c k (each (named_path g L dirs) cs) ≡ Err f
    refused_more c cs f (Err e) r so is = cc
    refused_more c cs f (Ok p) (Ok ms) so is = cc
    refused_more c cs f (Ok p) (Err e) so is =
        let same : e ≡ f = cc in
        ap (λ (r : Result (List (Name × Text)) Fault). r >>= λ ys. Ok ((c.component, key_path_text p) ∷ ys)) (so e refl) ∙ ap (λ (x : Fault). Err x) same

    each_refused : (cs : List ComponentRow) (f : Fault) → each entry_of cs ≡ Err f → each (named_path g L dirs) cs ≡ Err f
    each_refused [] f is = cc
    each_refused (c ∷ cs) f is = refused_more c cs f (key_path g L dirs c) (each entry_of cs) (each_refused cs) is

    -- ---- the selection

    abbrev feature_entry : FeatureRow → Name × FeatureChoice
    feature_entry f = (f.feature, choice_to g.rows L (record_of_product g) level f)

    abbrev component_entry : ComponentRow → Name × Chosen
    component_entry c = (c.component, chosen_to c)

    selection-is : (mode : Mode) (features : List (Name × FeatureChoice)) (made : List (Name × Chosen)) → features ≡ map feature_entry (feature_order g.rows) → made ≡ map component_entry (component_order g.rows)
        → made_of (Ok level) (Ok mode) None (Ok (map path_shown made)) ≡ Ok (selection_of features made mode)
    unfolding selection_of
    selection-is mode features made of_features of_components = λ i. Ok (record {
      requests = requests i;
      local_after = local_after i;
      actions = acting i;
      coming = coming i;
      leaving = leaving i;
      kept = kept i;
      key_paths = map path_shown made;
      mode = mode;
    })
      where
        fs : List FeatureRow
        fs = feature_order g.rows

        cs : List ComponentRow
        cs = component_order g.rows

        requests : map {B = Name × Option world.Request} (λ (f : FeatureRow). (f.feature, feature_request g L dirs level f)) (feature_order g.rows) ≡ map (λ (e : Name × FeatureChoice). (e.0, option_map request_to e.1.request)) features
        requests =
            sym (ap (λ (l : List (Name × FeatureChoice)). map {B = Name × Option world.Request} (λ (e : Name × FeatureChoice). (e.0, option_map request_to e.1.request)) l) of_features
            ∙ shown-named (λ (f : FeatureRow). f.feature) (λ f. choice_to g.rows L (record_of_product g) level f) (λ (c : FeatureChoice). option_map request_to c.request) (feature_request g L dirs level) (feature_order g.rows) (λ f. request_back (feature_request g L dirs level f)))

        local_after : map (λ (f : FeatureRow). f.feature) (filter (is_feature_after g L dirs level) (feature_order g.rows)) ≡ names_that (λ (f : FeatureChoice). f.local_after) features
        local_after =
            sym (ap (names_that (λ (f : FeatureChoice). f.local_after)) of_features
            ∙ names-named (λ (f : FeatureRow). f.feature) (λ f. choice_to g.rows L (record_of_product g) level f) (λ (c : FeatureChoice). c.local_after) (feature_order g.rows))

        acting : map {B = Name × Option world.Action} (λ (c : ComponentRow). (c.component, component_action g L dirs level c)) (component_order g.rows) ≡ map (λ (e : Name × Chosen). (e.0, as_action e.1.choice.action)) made
        acting =
            sym (ap (λ (l : List (Name × Chosen)). map {B = Name × Option world.Action} (λ (e : Name × Chosen). (e.0, as_action e.1.choice.action)) l) of_components
            ∙ shown-named (λ (c : ComponentRow). c.component) chosen_to (λ (c : Chosen). as_action c.choice.action) (component_action g L dirs level) (component_order g.rows) (λ c. action_back (component_action g L dirs level c)))

        those : (test : Chosen → Bool) → components_that g L dirs (λ c. test (chosen_to c)) ≡ names_that test made
        those test = sym (ap (names_that test) of_components ∙ names-named (λ (c : ComponentRow). c.component) chosen_to test (component_order g.rows))

        coming : components_that g L dirs (comes_in g L dirs level) ≡ names_that (λ (c : Chosen). c.coming) made
        coming = those (λ c. c.coming)

        leaving : components_that g L dirs (leaves_in g L dirs level) ≡ names_that (λ (c : Chosen). c.leaving) made
        leaving = those (λ c. c.leaving)

        kept : components_that g L dirs (keeps_in g L dirs level) ≡ names_that (λ (c : Chosen). c.kept) made
        kept = those (λ c. c.kept)

  -- ---- where the settings and the lists are right

  module _ (level : ℕ) (mode : Mode) (at_level : setting install_level_of L (codes "INSTALLLEVEL") ≡ Ok level) (at_mode : setting reinstall_mode_of L (codes "REINSTALLMODE") ≡ Ok mode) (none : lists_fault g.rows L ≡ None) where
    behind_settings : (r : Result (List (Name × Text)) Fault) → paths ≡ r → selected g L dirs ≡ made_of (Ok level) (Ok mode) None r
    behind_settings r is =
        ap (λ (a : Result ℕ Fault). made_of a (setting reinstall_mode_of L (codes "REINSTALLMODE")) (lists_fault g.rows L) paths) at_level
        ∙ ap (λ (b : Result Mode Fault). made_of (Ok level) b (lists_fault g.rows L) paths) at_mode
        ∙ ap (λ (o : Option Fault). made_of (Ok level) (Ok mode) o paths) none
        ∙ ap (made_of (Ok level) (Ok mode) None) is

-- ---- refusals of the settings and of the lists

refused_first : (g : Given) (L : Lookups) (dirs : List Place) (rows : Rows) (recorded : Option (List Text)) (f : Fault) (a : Result ℕ Fault) (b : Result Mode Fault) (o : Option Fault) (paths : Result (List (Name × Text)) Fault)
    → answered rows L recorded a b o ≡ Err f → made_of g L dirs a b o paths ≡ Err f
refused_first g L dirs rows recorded f (Err e) b o paths is = cc
refused_first g L dirs rows recorded f (Ok level) (Err e) o paths is = cc
refused_first g L dirs rows recorded f (Ok level) (Ok mode) (Some e) paths is = cc
refused_first g L dirs rows recorded f (Ok level) (Ok mode) None paths is = cc

pub selected_refused : (g : Given) (L : Lookups) (dirs : List Place) (rows : Rows) (recorded : Option (List Text)) (f : Fault) → g.rows ≡ rows → requested rows L recorded ≡ Err f → selected g L dirs ≡ Err f
selected_refused g L dirs rows recorded f the_rows is =
    refused_first g L dirs g.rows recorded f (setting install_level_of L (codes "INSTALLLEVEL")) (setting reinstall_mode_of L (codes "REINSTALLMODE")) (lists_fault g.rows L) (each (named_path g L dirs) (component_order g.rows))
    (ap (λ (rs : Rows). requested rs L recorded) the_rows ∙ is)

pub asked_refused : {A : Type 0} (seen : A → List FeatureChoice × Mode) (g : Given) (L : Lookups) (dirs : List Place) (rows : Rows) (recorded : Option (List Text)) (e : SelectError) → g.rows ≡ rows → Gives {A = A} (Err e) seen (requested rows L recorded)
    → Gives {A = Selection} (Err e) (λ s. s) (selected g L dirs)
asked_refused seen g L dirs rows recorded error.NoMemory the_rows so = tt
asked_refused seen g L dirs rows recorded (error.Fault f) the_rows so = selected_refused g L dirs rows recorded f the_rows so

-- ---- the selection, of what the program keeps

module _ (g : Given) (L : Lookups) (dirs : List Place) (rows : Rows) (m : Machine) (the_rows : g.rows ≡ rows) (the_machine : g.former ≡ m) (items : List FeatureChoice) (mode : Mode) (asked : requested rows L (recorded_in m rows) ≡ Ok (items, mode))
    (kept : List ComponentChoice) (chosen : (level : ℕ) → items ≡ map (choice_to g.rows L (record_of_product g) level) g.rows.feature → kept ≡ map (component_choice g L dirs level) g.rows.component) where
  asked_here : requested g.rows L (record_of_product g) ≡ Ok (items, mode)
  asked_here = ap (λ (rs : Rows). requested rs L (recorded_in g.former rs)) the_rows ∙ ap (λ (n : Machine). requested rows L (recorded_in n rows)) the_machine ∙ asked

  each_here : (level : ℕ) → kept ≡ map (component_choice g L dirs level) g.rows.component → (r : Result (List (Name × Chosen)) Fault)
      → ((choice : ComponentRow → ComponentChoice) → kept ≡ map choice rows.component → each (chosen_entry m rows dirs L choice) (component_order rows) ≡ r) → each (entry_of g L dirs level) (component_order g.rows) ≡ r
  each_here level is r of_components =
      let choice : ComponentRow → ComponentChoice = component_choice g L dirs level in
      ap (λ (rs : Rows). each (chosen_entry g.former rs dirs L choice) (component_order rs)) the_rows
      ∙ ap (λ (n : Machine). each (chosen_entry n rows dirs L choice) (component_order rows)) the_machine
      ∙ of_components choice (is ∙ ap (λ (rs : Rows). map choice rs.component) the_rows)

  pub selection_made : (features : List (Name × FeatureChoice)) → ((choice : FeatureRow → FeatureChoice) → items ≡ map choice rows.feature → features ≡ map (λ (f : FeatureRow). (f.feature, choice f)) (feature_order rows))
      → (made : List (Name × Chosen)) → ((choice : ComponentRow → ComponentChoice) → kept ≡ map choice rows.component → each (chosen_entry m rows dirs L choice) (component_order rows) ≡ Ok made)
      → selected g L dirs ≡ Ok (selection_of features made mode)
  selection_made features of_features made of_components =
      let says = requested_says g.rows L (record_of_product g) items mode asked_here in
      let choice : FeatureRow → FeatureChoice = choice_to g.rows L (record_of_product g) says.0 in
      let parts = each_chosen g L dirs says.0 (component_order g.rows) made (each_here says.0 (chosen says.0 says.4) (Ok made) of_components) in
      behind_settings g L dirs says.0 mode says.1 says.2 says.3 (Ok (map (path_shown g L dirs says.0) made)) parts.1
      ∙ selection-is g L dirs says.0 mode features made
      (of_features choice (says.4 ∙ ap (λ (rs : Rows). map choice rs.feature) the_rows) ∙ ap (λ (rs : Rows). map (λ (f : FeatureRow). (f.feature, choice f)) (feature_order rs)) (sym the_rows))
      parts.0

  pub selection_refused : (f : Fault) → ((choice : ComponentRow → ComponentChoice) → kept ≡ map choice rows.component → each (chosen_entry m rows dirs L choice) (component_order rows) ≡ Err f)
      → selected g L dirs ≡ Err f
  selection_refused f of_components =
      let says = requested_says g.rows L (record_of_product g) items mode asked_here in
      behind_settings g L dirs says.0 mode says.1 says.2 says.3 (Err f) (each_refused g L dirs says.0 (component_order g.rows) f (each_here says.0 (chosen says.0 says.4) (Err f) of_components))

  pub paths_refused : {A : Type 0} (seen : A → List (Name × Chosen)) (e : SelectError) → ((choice : ComponentRow → ComponentChoice) → kept ≡ map choice rows.component → Gives {A = A} (Err e) seen (each (chosen_entry m rows dirs L choice) (component_order rows)))
      → Gives {A = Selection} (Err e) (λ s. s) (selected g L dirs)
  paths_refused seen error.NoMemory so = tt
  paths_refused seen (error.Fault f) so = selection_refused f so

-- ---- as many choices as rows

pub features_length : (rows : Rows) (L : Lookups) (recorded : Option (List Text)) (items : List FeatureChoice) (mode : Mode) → requested rows L recorded ≡ Ok (items, mode) → length items ≡ length rows.feature
features_length rows L recorded items mode is =
    let says = requested_says rows L recorded items mode is in
    ap length says.4 ∙ length-map rows.feature (choice_to rows L recorded says.0)

pub choices_length : (rows : Rows) (L : Lookups) (m : Machine) (items : List FeatureChoice) (mode : Mode) → requested rows L (recorded_in m rows) ≡ Ok (items, mode) → (kept : List ComponentChoice)
    → ((g : Given) (dirs : List Place) (level : ℕ) → g.rows ≡ rows → g.former ≡ m → items ≡ map (choice_to g.rows L (record_of_product g) level) g.rows.feature → kept ≡ map (component_choice g L dirs level) g.rows.component)
    → length kept ≡ length rows.component
choices_length rows L m items mode is kept chosen =
    let says = requested_says rows L (recorded_in m rows) items mode is in
    let g : Given = record { rows = rows; folder = []; words = []; files = empty; former = m; now = 0 } in
    ap length (chosen g [] says.0 refl refl says.4) ∙ length-map rows.component (component_choice g L [] says.0)
