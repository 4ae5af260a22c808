-- What a walk has made of clients and products so far, by the actions that it has begun.
use Rattle.std.proofs.Common.{◌≡◌, ◌⊎◌, inl, inr, ℕ, Bool, true, false, ◌||◌, List, [], ◌∷◌, ◌++◌, Option, Some, None, refl, sym, ap, subst, ◌∙◌}
use Rattle.std.specs.Prelude.{◌&&◌, not, nat_eq, codes, IsSome, IfSome, option_map, option_and_then, unwrap_or}
use Rattle.std.specs.List.{starts_with, AllByRecursion}
use Rattle.std.specs.FinMap.{get}
use Rattle.mi_text.specs.Maps.{Name, same_name, is_among}
use Rattle.mi_base.specs.Machine.{Machine, as_client}
use Rattle.mi_base.specs.Names.{client_name, product_name}
use Rattle.mi_schema.specs.TableRows.{Numbered, in_key_order, product_code}
use Rattle.mi_schema.specs.declared.typed_rows.ComponentRow.{ComponentRow}
use Rattle.mi_model.specs.World.{Given, World, Selection, Costed, MakeAbsent}
use Rattle.mi_model.specs.Asked.{chosen}
use Rattle.mi_model.specs.ClientRows.{the_system}
use Rattle.mi_model.specs.ComponentRows.{choice_of, action_in}
use Rattle.mi_model.specs.Phases.{effect_of}
use Rattle.mi_model.specs.ProcessComponents.{process_components}
use Rattle.mi_model.specs.PublishProduct.{product_after, publish_product}
use Rattle.mi_model.specs.Sequence.{is_costed, is_inside}
use Rattle.mi_model.specs.Walk.{Walked}
use Rattle.mi_model_laws.specs.PhaseLaws.{IsAfter}
use Rattle.mi_model_laws.specs.RecordLaws.{component_rows}
use Rattle.mi_model_laws.proofs.CountLemmas.{clients_are_processed}
use Rattle.mi_model_laws.proofs.ClientLemmas.{product_is_published, others_stay}
use Rattle.mi_laws.specs.Walks.{Selects, HasSelected}
use Rattle.mi_laws.proofs.TidyLemmas.{IsTidy}
use Rattle.mi_laws.proofs.StepKindLemmas.{IsNoCost}
use Rattle.mi_laws.proofs.ClientRowLemmas.{is_row_of, has_row, system_client_stays, others_clients_stay, own_client_stays, own_client_goes, absent_client_stays, own_client_taken}
use Rattle.mi_laws.proofs.SelectLemmas.{actions_gone, all_of}
use Rattle.mi_model.specs.States.{named}
use Rattle.std.specs.Option.{option_flatten}
use Rattle.mi_laws.proofs.ClientPhaseLemmas.{processing, publishing, later, not_later, was_false, stays_true, no_processing, no_publishing, begins_product_name}

module _ (g : Given) where
  abbrev code : ℕ
  code = product_code g.rows

  -- the name of no client row of this product, and of none of the system's
  abbrev IsNotOwn : Name → Type 0
  IsNotOwn q = (id : ℕ) → same_name q (client_name id code) ≡ false

  abbrev IsNotSystem : Name → Type 0
  IsNotSystem q = (id : ℕ) → same_name q (client_name id the_system) ≡ false

  abbrev HasRow : Name → Type 0
  HasRow q = has_row g.rows.component code q ≡ true

  -- by this selection each component with a row there is made absent
  abbrev pub AreTaken : Selection → Name → Type 0
  AreTaken s q = AllByRecursion (λ (c : Numbered ComponentRow). is_row_of code q c ≡ true → option_flatten (named c.row.component s.actions) ≡ Some MakeAbsent) (in_key_order (λ (c : ComponentRow). c.component) g.rows.component)

  -- by this selection each component with a row of the system there is made absent
  abbrev pub AreStill : Selection → Name → Type 0
  AreStill s q = AllByRecursion (λ (c : Numbered ComponentRow). is_row_of the_system q c ≡ true → option_flatten (named c.row.component s.actions) ≡ Some MakeAbsent) (in_key_order (λ (c : ComponentRow). c.component) g.rows.component)

  pub record IsSeen (begun : List Name) (choice : Option Selection) (m : Machine) : Type 0 where
    pub costed : is_costed begun ≡ true → IsSome choice
    pub inside : is_inside begun ≡ true → is_costed begun ≡ true
    pub processed_costed : is_among processing begun ≡ true → is_costed begun ≡ true
    pub published_costed : is_among publishing begun ≡ true → is_costed begun ≡ true
    pub others : (q : Name) → starts_with nat_eq q (codes "c/") ≡ true → IsNotOwn q → IsNotSystem q → get m q ≡ get g.former q
    pub products : (q : Name) → starts_with nat_eq q (codes "p/") ≡ true → same_name q (product_name code) ≡ false → get m q ≡ get g.former q
    pub unprocessed : is_among processing begun ≡ false → (q : Name) → starts_with nat_eq q (codes "c/") ≡ true → get m q ≡ get g.former q
    pub unpublished : is_among publishing begun ≡ false → (q : Name) → starts_with nat_eq q (codes "p/") ≡ true → get m q ≡ get g.former q
    pub own : (q : Name) → starts_with nat_eq q (codes "c/") ≡ true → IsNotSystem q → (get m q ≡ get g.former q) ⊎ HasRow q
    pub gone : is_among processing begun ≡ true → (s : Selection) → choice ≡ Some s → s.local_after ≡ [] → (q : Name) → starts_with nat_eq q (codes "c/") ≡ true → HasRow q → IsSome (as_client (get g.former q)) → get m q ≡ None
    pub absent : is_among processing begun ≡ true → (s : Selection) → choice ≡ Some s → s.local_after ≡ [] → (q : Name) → starts_with nat_eq q (codes "c/") ≡ true → as_client (get g.former q) ≡ None → get m q ≡ get g.former q
    pub taken : is_among processing begun ≡ true → (s : Selection) → choice ≡ Some s → (q : Name) → starts_with nat_eq q (codes "c/") ≡ true → IsNotSystem q → AreTaken s q → HasRow q → get m q ≡ None
    pub still : is_among processing begun ≡ true → (s : Selection) → choice ≡ Some s → (q : Name) → starts_with nat_eq q (codes "c/") ≡ true → IsNotOwn q → AreStill s q → get m q ≡ get g.former q
    pub published : is_among publishing begun ≡ true → (s : Selection) → choice ≡ Some s → get m (product_name code) ≡ product_after g.rows s.local_after

  abbrev Seen : Walked → Type 0
  Seen w = IsSeen w.begun (choice_of w.world) w.world.machine

  -- an action that opens the inside, or leads no further
  pub opened : (begun : List Name) (action : Name) → (is_inside begun ≡ true → is_costed begun ≡ true) → (same_name (codes "InstallInitialize") action ≡ true → is_costed begun ≡ true) → is_inside (begun ++ action ∷ []) ≡ true → is_costed begun ≡ true
  opened begun action so opens is =
      by (is_among (codes "InstallInitialize") begun) (is_among (codes "InstallFinalize") begun) (same_name (codes "InstallInitialize") action) refl refl refl
      (sym (ap (λ a. a && not (is_among (codes "InstallFinalize") (begun ++ action ∷ []))) (later (codes "InstallInitialize") begun action) ∙ ap (λ b. (is_among (codes "InstallInitialize") begun || (same_name (codes "InstallInitialize") action || false)) && not b) (later (codes "InstallFinalize") begun action)) ∙ is)
    where
      by : (a b c : Bool) → is_among (codes "InstallInitialize") begun ≡ a → is_among (codes "InstallFinalize") begun ≡ b → same_name (codes "InstallInitialize") action ≡ c
          → ((a || (c || false)) && not (b || (same_name (codes "InstallFinalize") action || false))) ≡ true → is_costed begun ≡ true
      by a b true ea eb ec is = opens ec
      by true false false ea eb ec is = so (ap (λ a. a && not (is_among (codes "InstallFinalize") begun)) ea ∙ ap not eb)
      by true true false ea eb ec is = cc
      by false b false ea eb ec is = cc

  -- an action that is no phase, and changes neither the machine nor the selection
  pub kept : (begun : List Name) (action : Name) (choice : Option Selection) (m : Machine) → (is_inside (begun ++ action ∷ []) ≡ true → is_costed begun ≡ true) → IsNoCost action → effect_of action ≡ None → IsSeen begun choice m → IsSeen (begun ++ action ∷ []) choice m
  kept begun action choice m opens no_cost none s = record {
    costed = λ is. s.costed (sym (not_later (codes "CostFinalize") begun action no_cost) ∙ is);
    inside = λ is. stays_true (codes "CostFinalize") begun action (opens is);
    processed_costed = λ is. stays_true (codes "CostFinalize") begun action (s.processed_costed (sym (not_later processing begun action (no_processing action none)) ∙ is));
    published_costed = λ is. stays_true (codes "CostFinalize") begun action (s.published_costed (sym (not_later publishing begun action (no_publishing action none)) ∙ is));
    others = s.others;
    products = s.products;
    unprocessed = λ isnt. s.unprocessed (was_false processing begun action isnt);
    unpublished = λ isnt. s.unpublished (was_false publishing begun action isnt);
    own = s.own;
    gone = λ is. s.gone (sym (not_later processing begun action (no_processing action none)) ∙ is);
    absent = λ is. s.absent (sym (not_later processing begun action (no_processing action none)) ∙ is);
    taken = λ is. s.taken (sym (not_later processing begun action (no_processing action none)) ∙ is);
    still = λ is. s.still (sym (not_later processing begun action (no_processing action none)) ∙ is);
    published = λ is. s.published (sym (not_later publishing begun action (no_publishing action none)) ∙ is);
  }

  impossible : {X : Type 0} (b : Bool) → b ≡ false → b ≡ true → X
  impossible b isnt is = let both = sym isnt ∙ is in cc

  -- CostFinalize, which is begun once
  pub costs : (begun : List Name) (action : Name) (old now : Option Selection) (m : Machine) → IsSome now → is_costed begun ≡ false → same_name action (codes "CostFinalize") ≡ true → effect_of action ≡ None → (is_inside (begun ++ action ∷ []) ≡ true → is_costed begun ≡ true) → IsSeen begun old m → IsSeen (begun ++ action ∷ []) now m
  costs begun action old now m some fresh named none opens s = record {
    costed = λ is. some;
    inside = λ is. impossible _ fresh (opens is);
    processed_costed = λ is. impossible _ fresh (s.processed_costed (sym (not_later processing begun action (no_processing action none)) ∙ is));
    published_costed = λ is. impossible _ fresh (s.published_costed (sym (not_later publishing begun action (no_publishing action none)) ∙ is));
    others = s.others;
    products = s.products;
    unprocessed = λ isnt. s.unprocessed (was_false processing begun action isnt);
    unpublished = λ isnt. s.unpublished (was_false publishing begun action isnt);
    own = s.own;
    gone = λ is. impossible _ fresh (s.processed_costed (sym (not_later processing begun action (no_processing action none)) ∙ is));
    absent = λ is. impossible _ fresh (s.processed_costed (sym (not_later processing begun action (no_processing action none)) ∙ is));
    taken = λ is. impossible _ fresh (s.processed_costed (sym (not_later processing begun action (no_processing action none)) ∙ is));
    still = λ is. impossible _ fresh (s.processed_costed (sym (not_later processing begun action (no_processing action none)) ∙ is));
    published = λ is. impossible _ fresh (s.published_costed (sym (not_later publishing begun action (no_publishing action none)) ∙ is));
  }

  either_way : {A B C : Type 0} → (A → C) → (B → C) → A ⊎ B → C
  either_way f h (inl a) = f a
  either_way f h (inr b) = h b

  -- a phase that changes neither clients nor products
  pub ran_other : (begun : List Name) (action : Name) (choice : Option Selection) (m n : Machine) → is_inside begun ≡ true → same_name processing action ≡ false → same_name publishing action ≡ false
      → ((q : Name) → starts_with nat_eq q (codes "c/") ≡ true → get n q ≡ get m q) → ((q : Name) → starts_with nat_eq q (codes "p/") ≡ true → get n q ≡ get m q) → IsSeen begun choice m → IsSeen (begun ++ action ∷ []) choice n
  ran_other begun action choice m n inside not_c not_p clients products s = record {
    costed = λ is. s.costed (s.inside inside);
    inside = λ is. stays_true (codes "CostFinalize") begun action (s.inside inside);
    processed_costed = λ is. stays_true (codes "CostFinalize") begun action (s.inside inside);
    published_costed = λ is. stays_true (codes "CostFinalize") begun action (s.inside inside);
    others = λ q b own system. clients q b ∙ s.others q b own system;
    products = λ q b other. products q b ∙ s.products q b other;
    unprocessed = λ isnt q b. clients q b ∙ s.unprocessed (was_false processing begun action isnt) q b;
    unpublished = λ isnt q b. products q b ∙ s.unpublished (was_false publishing begun action isnt) q b;
    own = λ q b system. either_way (λ e. inl (clients q b ∙ e)) inr (s.own q b system);
    gone = λ is t c e q b has there. clients q b ∙ s.gone (sym (not_later processing begun action not_c) ∙ is) t c e q b has there;
    absent = λ is t c e q b none. clients q b ∙ s.absent (sym (not_later processing begun action not_c) ∙ is) t c e q b none;
    taken = λ is t c q b system all has. clients q b ∙ s.taken (sym (not_later processing begun action not_c) ∙ is) t c q b system all has;
    still = λ is t c q b own all. clients q b ∙ s.still (sym (not_later processing begun action not_c) ∙ is) t c q b own all;
    published = λ is t c. products (product_name code) (begins_product_name code) ∙ s.published (sym (not_later publishing begun action not_p) ∙ is) t c;
  }

-- ---- the two phases

selected_by : (w : World) (s : Selection) → HasSelected w.given w → choice_of w ≡ Some s → Selects w.given s
selected_by w s sel is = subst (λ (o : Option Selection). IfSome o (Selects w.given)) is sel

same_true : (n : Name) (begun : List Name) (action : Name) → same_name n action ≡ true → is_among n (begun ++ action ∷ []) ≡ true
same_true n begun action is = later n begun action ∙ ap (λ b. is_among n begun || (b || false)) is ∙ by (is_among n begun)
  where
    by : (a : Bool) → (a || true) ≡ true
    by true = refl
    by false = refl

never : {X : Type 0} (b : Bool) → b ≡ true → b ≡ false → X
never b is isnt = let both = sym is ∙ isnt in cc

-- the actions of a selection are those of the world that has it
absent_here : (w : World) (t : Selection) → choice_of w ≡ Some t → (test : Numbered ComponentRow → Bool) (rows : List (Numbered ComponentRow)) → AllByRecursion (λ (d : Numbered ComponentRow). test d ≡ true → option_flatten (named d.row.component t.actions) ≡ Some MakeAbsent) rows
    → AllByRecursion (λ (d : Numbered ComponentRow). test d ≡ true → action_in w d.row.component ≡ Some MakeAbsent) rows
absent_here w t c test rows all =
    all_of (λ (d : Numbered ComponentRow). test d ≡ true → option_flatten (named d.row.component t.actions) ≡ Some MakeAbsent) (λ (d : Numbered ComponentRow). test d ≡ true → action_in w d.row.component ≡ Some MakeAbsent)
    (λ d so is. ap (λ (o : Option Selection). option_flatten (option_and_then (λ (s : Selection). named d.row.component s.actions) o)) c ∙ so is) rows all

pub ran_processing : (w : World) (begun : List Name) (action : Name) (m : Machine) → IsTidy w.given → HasSelected w.given w → is_inside begun ≡ true → same_name processing action ≡ true → same_name publishing action ≡ false → is_among processing begun ≡ false
    → IsAfter process_components w m → ((q : Name) → starts_with nat_eq q (codes "p/") ≡ true → get m q ≡ get w.machine q) → IsSeen w.given begun (choice_of w) w.machine → IsSeen w.given (begun ++ action ∷ []) (choice_of w) m
ran_processing w begun action m tidy sel inside processes not_p fresh after products s = record {
  costed = λ is. s.costed (s.inside inside);
  inside = λ is. stays_true (codes "CostFinalize") begun action (s.inside inside);
  processed_costed = λ is. stays_true (codes "CostFinalize") begun action (s.inside inside);
  published_costed = λ is. stays_true (codes "CostFinalize") begun action (s.inside inside);
  others = λ q b own system. clients_are_processed w m after q b ∙ others_clients_stay w q own system (get w.machine q) ∙ s.others q b own system;
  products = λ q b other. products q b ∙ s.products q b other;
  unprocessed = λ isnt. never _ (same_true processing begun action processes) isnt;
  unpublished = λ isnt q b. products q b ∙ s.unpublished (was_false publishing begun action isnt) q b;
  own = λ q b system. either_way w.given
      (λ e. either_way w.given (λ f. inl (clients_are_processed w m after q b ∙ e ∙ f)) inr (s.own q b system)) inr
      (own_client_stays w q system (has_row w.given.rows.component (product_code w.given.rows) q) refl (get w.machine q));
  gone = λ is t c e q b has there.
      clients_are_processed w m after q b ∙ own_client_goes w q there (actions_gone w t c tidy (selected_by w t sel c) e) has (get w.machine q);
  absent = λ is t c e q b none.
      clients_are_processed w m after q b ∙ absent_client_stays w q none (actions_gone w t c tidy (selected_by w t sel c) e) (get w.machine q) ∙ s.unprocessed fresh q b;
  taken = λ is t c q b system all has.
      clients_are_processed w m after q b ∙ own_client_taken w q system (absent_here w t c (is_row_of (product_code w.given.rows) q) (component_rows w) all) has (get w.machine q);
  still = λ is t c q b own all.
      clients_are_processed w m after q b ∙ system_client_stays w q own (absent_here w t c (is_row_of the_system q) (component_rows w) all) (get w.machine q) ∙ s.unprocessed fresh q b;
  published = λ is t c. products (product_name (product_code w.given.rows)) (begins_product_name (product_code w.given.rows)) ∙ s.published (sym (not_later publishing begun action not_p) ∙ is) t c;
}

chosen_after : (w : World) (s : Selection) → choice_of w ≡ Some s → chosen w (λ s. s.local_after) ≡ s.local_after
chosen_after w s is = by w.costed is
  where
    by : (o : Option Costed) → option_map (λ (c : Costed). c.choice) o ≡ Some s → unwrap_or (option_map (λ (c : Costed). c.choice.local_after) o) [] ≡ s.local_after
    by (Some c) e = let same : c.choice ≡ s = cc in ap (λ (t : Selection). t.local_after) same
    by None e = cc

pub ran_publishing : (w : World) (begun : List Name) (action : Name) (m : Machine) → is_inside begun ≡ true → same_name publishing action ≡ true → same_name processing action ≡ false
    → IsAfter publish_product w m → ((q : Name) → starts_with nat_eq q (codes "c/") ≡ true → get m q ≡ get w.machine q) → IsSeen w.given begun (choice_of w) w.machine → IsSeen w.given (begun ++ action ∷ []) (choice_of w) m
ran_publishing w begun action m inside named not_c after clients s = record {
  costed = λ is. s.costed (s.inside inside);
  inside = λ is. stays_true (codes "CostFinalize") begun action (s.inside inside);
  processed_costed = λ is. stays_true (codes "CostFinalize") begun action (s.inside inside);
  published_costed = λ is. stays_true (codes "CostFinalize") begun action (s.inside inside);
  others = λ q b own system. clients q b ∙ s.others q b own system;
  products = λ q b other. others_stay w m after q other ∙ s.products q b other;
  unprocessed = λ isnt q b. clients q b ∙ s.unprocessed (was_false processing begun action isnt) q b;
  unpublished = λ isnt. never _ (same_true publishing begun action named) isnt;
  own = λ q b system. either_way w.given (λ e. inl (clients q b ∙ e)) inr (s.own q b system);
  gone = λ is t c e q b has there. clients q b ∙ s.gone (sym (not_later processing begun action not_c) ∙ is) t c e q b has there;
  absent = λ is t c e q b none. clients q b ∙ s.absent (sym (not_later processing begun action not_c) ∙ is) t c e q b none;
  taken = λ is t c q b system all has. clients q b ∙ s.taken (sym (not_later processing begun action not_c) ∙ is) t c q b system all has;
  still = λ is t c q b own all. clients q b ∙ s.still (sym (not_later processing begun action not_c) ∙ is) t c q b own all;
  published = λ is t c. product_is_published w m after ∙ ap (product_after w.given.rows) (chosen_after w t c);
}
