-- What ProcessComponents makes of one client row.
use Rattle.std.proofs.Common.{◌≡◌, ◌⊎◌, inl, inr, ℕ, Bool, true, false, cond, ◌||◌, List, [], ◌∷◌, Option, Some, None, Result, Ok, Err, refl, sym, ap, subst, ◌∙◌}
use Rattle.std.specs.Prelude.{◌&&◌, is_some, IsSome}
use Rattle.std.specs.List.{list_any, AllByRecursion}
use Rattle.std.specs.Option.{option_map_or}
use Rattle.std.specs.FinMap.{get}
use Rattle.mi_text.specs.Maps.{Name, same_name}
use Rattle.mi_text.proofs.MapLemmas.{from_same}
use Rattle.mi_text.specs.declared.guid.Guid.{Guid}
use Rattle.mi_base.specs.declared.entry.Entry.{Entry}
use Rattle.mi_base.specs.declared.answers.Fault.{Fault}
use Rattle.mi_base.specs.Machine.{client_at, as_client}
use Rattle.mi_base.specs.Names.{client_name}
use Rattle.mi_schema.specs.TableRows.{Numbered, in_key_order, product_code}
use Rattle.mi_schema.specs.declared.typed_rows.ComponentRow.{ComponentRow}
use Rattle.mi_model.specs.Texts.{Text}
use Rattle.mi_model.specs.World.{World, Action, MakeLocal, MakeAbsent}
use Rattle.mi_model.specs.Components.{has_id}
use Rattle.mi_model.specs.ComponentRows.{action_in}
use Rattle.mi_model.specs.ClientRows.{recorded_path, the_system, client}
use Rattle.mi_model.specs.Conditions.{has}
use Rattle.mi_model.specs.States.{is_present, is_present_by}
use Rattle.mi_model_laws.specs.PhaseLaws.{in_turn}
use Rattle.mi_model_laws.specs.RecordLaws.{client_made, client_after, client_by, component_rows}
use Rattle.mi_laws.proofs.ActionLemmas.{gone_or_none}

-- this client row of a product is that of one of these rows of Component
abbrev pub is_row_of : ℕ → Name → Numbered ComponentRow → Bool
is_row_of product q c = option_map_or (λ (id : Guid). same_name q (client_name id.number product)) c.row.component_id false

abbrev pub has_row : List ComponentRow → ℕ → Name → Bool
has_row rows product q = list_any (is_row_of product q) (in_key_order (λ (c : ComponentRow). c.component) rows)

unless_so : {X : Type 0} (b : Bool) (x y : X) → b ≡ false → cond b x y ≡ y
unless_so true x y e = cc
unless_so false x y e = refl

none_of : (a b : Bool) → b ≡ false → (a && b) ≡ false
none_of true b e = e
none_of false b e = refl

-- rows that keep a name
in_turn-keeps : (step : Numbered ComponentRow → Option Entry → Option Entry) (rows : List (Numbered ComponentRow)) → ((r : Numbered ComponentRow) (o : Option Entry) → step r o ≡ o) → (old : Option Entry) → in_turn step rows old ≡ old
in_turn-keeps step [] keeps old = refl
in_turn-keeps step (r ∷ rows) keeps old = ap (in_turn step rows) (keeps r old) ∙ in_turn-keeps step rows keeps old

-- ---- a row of another product, and not of the system

module _ (w : World) (q : Name) (not_own : (id : ℕ) → same_name q (client_name id (product_code w.given.rows)) ≡ false) (not_system : (id : ℕ) → same_name q (client_name id the_system) ≡ false) where
  made_other : (c : ComponentRow) (id : Guid) (r : Result Text Fault) (old : Option Entry) → client_made w c id q r old ≡ old
  made_other c id (Err fault) old = refl
  made_other c id (Ok path) old =
      unless_so (has 16 c.attributes && same_name q (client_name id.number the_system)) (Some (client id the_system path)) _ (none_of (has 16 c.attributes) _ (not_system id.number))
      ∙ unless_so (same_name q (client_name id.number (product_code w.given.rows))) (Some (client id (product_code w.given.rows) path)) old (not_own id.number)

  after_other : (c : ComponentRow) (id : Guid) (action : Option Action) (old : Option Entry) → client_after w c id q action old ≡ old
  after_other c id (Some MakeLocal) old = made_other c id (recorded_path w c) old
  after_other c id (Some MakeAbsent) old = unless_so (same_name q (client_name id.number (product_code w.given.rows))) None old (not_own id.number)
  after_other c id None old = refl

  by_id_other : (c : Numbered ComponentRow) (old : Option Entry) (id : Option Guid) → option_map_or (λ (id : Guid). client_after w c.row id q (action_in w c.row.component) old) id old ≡ old
  by_id_other c old None = refl
  by_id_other c old (Some id) = after_other c.row id (action_in w c.row.component) old

  pub others_clients_stay : (old : Option Entry) → in_turn (client_by w q) (component_rows w) old ≡ old
  others_clients_stay old = in_turn-keeps (client_by w q) (component_rows w) (λ c o. by_id_other c o c.row.component_id) old

-- ---- a row of the system: it stays if each component with its id is made absent

module _ (w : World) (q : Name) (not_own : (id : ℕ) → same_name q (client_name id (product_code w.given.rows)) ≡ false) where
  abbrev StaysWhereSystem : Numbered ComponentRow → Type 0
  StaysWhereSystem c = is_row_of the_system q c ≡ true → action_in w c.row.component ≡ Some MakeAbsent

  made_still : (c : ComponentRow) (id : Guid) (r : Result Text Fault) (old : Option Entry) → same_name q (client_name id.number the_system) ≡ false → client_made w c id q r old ≡ old
  made_still c id (Err fault) old isnt = refl
  made_still c id (Ok path) old isnt =
      unless_so (has 16 c.attributes && same_name q (client_name id.number the_system)) (Some (client id the_system path)) _ (none_of (has 16 c.attributes) _ isnt)
      ∙ unless_so (same_name q (client_name id.number (product_code w.given.rows))) (Some (client id (product_code w.given.rows) path)) old (not_own id.number)

  after_still : (c : ComponentRow) (id : Guid) (action : Option Action) (old : Option Entry) (b : Bool) → same_name q (client_name id.number the_system) ≡ b → (b ≡ true → action ≡ Some MakeAbsent) → client_after w c id q action old ≡ old
  after_still c id (Some MakeLocal) old true is absent = let wrong = absent refl in cc
  after_still c id (Some MakeLocal) old false is absent = made_still c id (recorded_path w c) old is
  after_still c id (Some MakeAbsent) old b is absent = unless_so (same_name q (client_name id.number (product_code w.given.rows))) None old (not_own id.number)
  after_still c id None old b is absent = refl

  by_id_still : (c : Numbered ComponentRow) (old : Option Entry) (id : Option Guid) → (option_map_or (λ (id : Guid). same_name q (client_name id.number the_system)) id false ≡ true → action_in w c.row.component ≡ Some MakeAbsent)
      → option_map_or (λ (id : Guid). client_after w c.row id q (action_in w c.row.component) old) id old ≡ old
  by_id_still c old None absent = refl
  by_id_still c old (Some id) absent = after_still c.row id (action_in w c.row.component) old (same_name q (client_name id.number the_system)) refl absent

  still_in_turn : (rows : List (Numbered ComponentRow)) (old : Option Entry) → AllByRecursion StaysWhereSystem rows → in_turn (client_by w q) rows old ≡ old
  still_in_turn [] old all = refl
  still_in_turn (c ∷ rows) old all = ap (in_turn (client_by w q) rows) (by_id_still c old c.row.component_id all.0) ∙ still_in_turn rows old all.1

  pub system_client_stays : AllByRecursion StaysWhereSystem (component_rows w) → (old : Option Entry) → in_turn (client_by w q) (component_rows w) old ≡ old
  system_client_stays all old = still_in_turn (component_rows w) old all

-- ---- a row of this product: it stays, or it is that of a row of Component

module _ (w : World) (q : Name) where
  abbrev own : Numbered ComponentRow → Bool
  own = is_row_of (product_code w.given.rows) q

  module _ (not_system : (id : ℕ) → same_name q (client_name id the_system) ≡ false) where
    made_own : (c : ComponentRow) (id : Guid) (r : Result Text Fault) (old : Option Entry) → same_name q (client_name id.number (product_code w.given.rows)) ≡ false → client_made w c id q r old ≡ old
    made_own c id (Err fault) old isnt = refl
    made_own c id (Ok path) old isnt =
        unless_so (has 16 c.attributes && same_name q (client_name id.number the_system)) (Some (client id the_system path)) _ (none_of (has 16 c.attributes) _ (not_system id.number))
        ∙ unless_so (same_name q (client_name id.number (product_code w.given.rows))) (Some (client id (product_code w.given.rows) path)) old isnt

    after_own : (c : ComponentRow) (id : Guid) (action : Option Action) (old : Option Entry) → same_name q (client_name id.number (product_code w.given.rows)) ≡ false → client_after w c id q action old ≡ old
    after_own c id (Some MakeLocal) old isnt = made_own c id (recorded_path w c) old isnt
    after_own c id (Some MakeAbsent) old isnt = unless_so (same_name q (client_name id.number (product_code w.given.rows))) None old isnt
    after_own c id None old isnt = refl

    by_id_own : (c : Numbered ComponentRow) (old : Option Entry) (id : Option Guid) → option_map_or (λ (id : Guid). same_name q (client_name id.number (product_code w.given.rows))) id false ≡ false
        → option_map_or (λ (id : Guid). client_after w c.row id q (action_in w c.row.component) old) id old ≡ old
    by_id_own c old None isnt = refl
    by_id_own c old (Some id) isnt = after_own c.row id (action_in w c.row.component) old isnt

    or_false : (a b : Bool) → (a || b) ≡ false → (a ≡ false) × (b ≡ false)
    or_false true b e = cc
    or_false false b e = (refl, e)

    not_in_turn : (rows : List (Numbered ComponentRow)) (old : Option Entry) → list_any own rows ≡ false → in_turn (client_by w q) rows old ≡ old
    not_in_turn [] old none = refl
    not_in_turn (c ∷ rows) old none =
        let both = or_false (own c) (list_any own rows) none in
        ap (in_turn (client_by w q) rows) (by_id_own c old c.row.component_id both.0) ∙ not_in_turn rows old both.1

    pub own_client_stays : (b : Bool) → has_row w.given.rows.component (product_code w.given.rows) q ≡ b → (old : Option Entry) → (in_turn (client_by w q) (component_rows w) old ≡ old) ⊎ (has_row w.given.rows.component (product_code w.given.rows) q ≡ true)
    own_client_stays true is old = inr is
    own_client_stays false is old = inl (not_in_turn (component_rows w) old is)

  -- each component with its id is made absent
  abbrev GoesWhereOwn : Numbered ComponentRow → Type 0
  GoesWhereOwn c = is_row_of (product_code w.given.rows) q c ≡ true → action_in w c.row.component ≡ Some MakeAbsent

  module _ (not_system : (id : ℕ) → same_name q (client_name id the_system) ≡ false) where
    absent_by_id : (c : Numbered ComponentRow) (old : Option Entry) (id : Option Guid) → option_map_or (λ (id : Guid). same_name q (client_name id.number (product_code w.given.rows))) id false ≡ true → action_in w c.row.component ≡ Some MakeAbsent
        → option_map_or (λ (id : Guid). client_after w c.row id q (action_in w c.row.component) old) id old ≡ None
    absent_by_id c old None is goes = cc
    absent_by_id c old (Some id) is goes = ap (λ a. client_after w c.row id q a old) goes ∙ ap (λ b. cond b None old) is

    -- it stays away after the row that takes it
    away : (rows : List (Numbered ComponentRow)) → AllByRecursion GoesWhereOwn rows → in_turn (client_by w q) rows None ≡ None
    away [] all = refl
    away (c ∷ rows) all = ap (in_turn (client_by w q) rows) (by (is_row_of (product_code w.given.rows) q c) refl all.0) ∙ away rows all.1
      where
        by : (b : Bool) → is_row_of (product_code w.given.rows) q c ≡ b → GoesWhereOwn c → client_by w q c None ≡ None
        by true is goes = absent_by_id c None c.row.component_id is (goes is)
        by false is goes = by_id_own not_system c None c.row.component_id is

    taken_here : (rows : List (Numbered ComponentRow)) (c : Numbered ComponentRow) (old : Option Entry) (b : Bool) → is_row_of (product_code w.given.rows) q c ≡ b → GoesWhereOwn c → AllByRecursion GoesWhereOwn rows
        → (b ≡ false → (o : Option Entry) → in_turn (client_by w q) rows o ≡ None) → in_turn (client_by w q) rows (client_by w q c old) ≡ None
    taken_here rows c old true is goes all later = ap (in_turn (client_by w q) rows) (absent_by_id c old c.row.component_id is (goes is)) ∙ away rows all
    taken_here rows c old false is goes all later = later refl (client_by w q c old)

    taken_in : (rows : List (Numbered ComponentRow)) (old : Option Entry) → AllByRecursion GoesWhereOwn rows → list_any (is_row_of (product_code w.given.rows) q) rows ≡ true → in_turn (client_by w q) rows old ≡ None
    taken_in [] old all is = cc
    taken_in (c ∷ rows) old all is = taken_here rows c old (is_row_of (product_code w.given.rows) q c) refl all.0 all.1 (λ isnt o. taken_in rows o all.1 (sym (ap (λ b. b || list_any (is_row_of (product_code w.given.rows) q) rows) isnt) ∙ is))

    pub own_client_taken : AllByRecursion GoesWhereOwn (component_rows w) → has_row w.given.rows.component (product_code w.given.rows) q ≡ true → (old : Option Entry) → in_turn (client_by w q) (component_rows w) old ≡ None
    own_client_taken all is old = taken_in (component_rows w) old all is

  -- no component is made local, and each that is there is made absent
  abbrev Goes : Numbered ComponentRow → Type 0
  Goes c = action_in w c.row.component ≡ gone_or_none (has_id c.row && is_present w.given c.row)

  module _ (there : IsSome (as_client (get w.given.former q))) where
    some_is : {X : Type 0} (o : Option X) → IsSome o → is_some o ≡ true
    some_is (Some x) s = refl
    some_is None s = s

    gone_step : (c : ComponentRow) (id : Guid) (present own : Bool) (old : Option Entry) → same_name q (client_name id.number (product_code w.given.rows)) ≡ own → (own ≡ true → present ≡ true) → client_after w c id q (gone_or_none present) old ≡ cond own None old
    gone_step c id true own old is so = ap (λ b. cond b None old) is
    gone_step c id false false old is so = refl
    gone_step c id false true old is so = let both = so refl in cc

    present_so : (id : Guid) → same_name q (client_name id.number (product_code w.given.rows)) ≡ true → is_some (client_at w.given.former id.number (product_code w.given.rows)) ≡ true
    present_so id same = some_is _ (subst (λ n. IsSome (as_client (get w.given.former n))) (from_same q (client_name id.number (product_code w.given.rows)) same) there)

    gone_by_id : (c : Numbered ComponentRow) (old : Option Entry) (id : Option Guid) → action_in w c.row.component ≡ gone_or_none (is_some id && is_present_by w.given c.row.component id)
        → option_map_or (λ (id : Guid). client_after w c.row id q (action_in w c.row.component) old) id old ≡ cond (option_map_or (λ (id : Guid). same_name q (client_name id.number (product_code w.given.rows))) id false) None old
    gone_by_id c old None is = refl
    gone_by_id c old (Some id) is =
        ap (λ a. client_after w c.row id q a old) is
        ∙ gone_step c.row id (is_some (client_at w.given.former id.number (product_code w.given.rows))) (same_name q (client_name id.number (product_code w.given.rows))) old refl (present_so id)

    gone_row : (c : Numbered ComponentRow) (old : Option Entry) → Goes c → client_by w q c old ≡ cond (own c) None old
    unfolding is_present
    gone_row c old is = gone_by_id c old c.row.component_id is

    no_matter : (b : Bool) (o : Option Entry) → o ≡ None → cond b None o ≡ None
    no_matter true o is = refl
    no_matter false o is = is

    still_none : (rows : List (Numbered ComponentRow)) → AllByRecursion Goes rows → in_turn (client_by w q) rows None ≡ None
    still_none [] all = refl
    still_none (c ∷ rows) all = ap (in_turn (client_by w q) rows) (gone_row c None all.0 ∙ no_matter (own c) None refl) ∙ still_none rows all.1

    one_goes : (rows : List (Numbered ComponentRow)) (c : Numbered ComponentRow) (old : Option Entry) (b : Bool) → own c ≡ b → Goes c → AllByRecursion Goes rows → (b ≡ false → (o : Option Entry) → in_turn (client_by w q) rows o ≡ None)
        → in_turn (client_by w q) rows (client_by w q c old) ≡ None
    one_goes rows c old true is goes all later = ap (in_turn (client_by w q) rows) (gone_row c old goes ∙ ap (λ b. cond b None old) is) ∙ still_none rows all
    one_goes rows c old false is goes all later = later refl (client_by w q c old)

    own_goes : (rows : List (Numbered ComponentRow)) (old : Option Entry) → AllByRecursion Goes rows → list_any own rows ≡ true → in_turn (client_by w q) rows old ≡ None
    own_goes [] old all is = cc
    own_goes (c ∷ rows) old all is = one_goes rows c old (own c) refl all.0 all.1 (λ isnt o. own_goes rows o all.1 (sym (ap (λ b. b || list_any own rows) isnt) ∙ is))

    pub own_client_goes : AllByRecursion Goes (component_rows w) → has_row w.given.rows.component (product_code w.given.rows) q ≡ true → (old : Option Entry) → in_turn (client_by w q) (component_rows w) old ≡ None
    own_client_goes all is old = own_goes (component_rows w) old all is

  module _ (absent : as_client (get w.given.former q) ≡ None) where
    not_some : {X : Type 0} (o : Option X) → o ≡ None → is_some o ≡ false
    not_some (Some x) e = cc
    not_some None e = refl

    stay_step : (c : ComponentRow) (id : Guid) (present own : Bool) (old : Option Entry) → same_name q (client_name id.number (product_code w.given.rows)) ≡ own → (own ≡ true → present ≡ false) → client_after w c id q (gone_or_none present) old ≡ old
    stay_step c id true true old is so = let both = so refl in cc
    stay_step c id true false old is so = ap (λ b. cond b None old) is
    stay_step c id false own old is so = refl

    absent_so : (id : Guid) → same_name q (client_name id.number (product_code w.given.rows)) ≡ true → is_some (client_at w.given.former id.number (product_code w.given.rows)) ≡ false
    absent_so id same = not_some _ (subst (λ n. as_client (get w.given.former n) ≡ None) (from_same q (client_name id.number (product_code w.given.rows)) same) absent)

    stay_by_id : (c : Numbered ComponentRow) (old : Option Entry) (id : Option Guid) → action_in w c.row.component ≡ gone_or_none (is_some id && is_present_by w.given c.row.component id)
        → option_map_or (λ (id : Guid). client_after w c.row id q (action_in w c.row.component) old) id old ≡ old
    stay_by_id c old None is = refl
    stay_by_id c old (Some id) is =
        ap (λ a. client_after w c.row id q a old) is
        ∙ stay_step c.row id (is_some (client_at w.given.former id.number (product_code w.given.rows))) (same_name q (client_name id.number (product_code w.given.rows))) old refl (absent_so id)

    stay_row : (c : Numbered ComponentRow) (old : Option Entry) → Goes c → client_by w q c old ≡ old
    unfolding is_present
    stay_row c old is = stay_by_id c old c.row.component_id is

    stay_in_turn : (rows : List (Numbered ComponentRow)) (old : Option Entry) → AllByRecursion Goes rows → in_turn (client_by w q) rows old ≡ old
    stay_in_turn [] old all = refl
    stay_in_turn (c ∷ rows) old all = ap (in_turn (client_by w q) rows) (stay_row c old all.0) ∙ stay_in_turn rows old all.1

    pub absent_client_stays : AllByRecursion Goes (component_rows w) → (old : Option Entry) → in_turn (client_by w q) (component_rows w) old ≡ old
    absent_client_stays all old = stay_in_turn (component_rows w) old all
