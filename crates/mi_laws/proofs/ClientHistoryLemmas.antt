-- Every client row of a history is the system's, or names a recorded product.
use Rattle.std.proofs.Common.{◌≡◌, ◌⊎◌, inl, inr, ℕ, Bool, true, false, List, [], ◌∷◌, ◌++◌, fold, Option, Some, None, Result, Ok, Err, refl, sym, ap, subst, arith, ◌∙◌}
use Rattle.std.proofs.lemmas.Bool.Decides.{nat_tests}
use Rattle.std.specs.Prelude.{codes, is_some, IsSome, ◌==◌}
use Rattle.std.specs.List.{AllByRecursion}
use Rattle.std.specs.FinMap.{get, get-empty, empty}
use Rattle.mi_text.specs.Maps.{Name, name_cmp, same_name, is_among}
use Rattle.mi_text.proofs.MapLemmas.{from_same}
use Rattle.mi_volume.specs.Maps.{Map}
use Rattle.mi_base.specs.declared.entry.Client.{Client}
use Rattle.mi_base.specs.Machine.{Machine, client_at, product_at, as_client, as_product}
use Rattle.mi_base.specs.Names.{client_name, product_name}
use Rattle.mi_schema.specs.TableRows.{product_code}
use Rattle.mi_schema.specs.declared.typed_rows.ComponentRow.{ComponentRow}
use Rattle.mi_model.specs.Texts.{Text}
use Rattle.mi_model.specs.World.{Given, Selection}
use Rattle.mi_model.specs.ClientRows.{the_system}
use Rattle.mi_model.specs.PublishProduct.{product_after}
use Rattle.mi_model.specs.Walk.{Walked, walk, last_machine}
use Rattle.mi_laws.specs.Clients.{IsCode, HasBothOrNeither, HasRows, ClientsNameProducts}
use Rattle.mi_model.specs.Words.{Command, Package, Selftest, Clients, Products, Recover, command_of}
use Rattle.mi_model.specs.Selftest.{selftest_files}
use Rattle.mi_model.specs.PackageOutcome.{given_of}
use Rattle.mi_laws.specs.Histories.{Call, Left, Former, After, Event, Answered, Stopped, Settling, IsMachineOf, Leaves, IsEvent, GoesBy}
use Rattle.mi_laws.specs.Machines.{walked_over, after_walks, after_left, after_event, machine_after, walks_left, committed, all_committed}
use Rattle.mi_laws.proofs.MachineLemmas.{event_machine, empty_is}
use Rattle.mi_laws.proofs.SoundLemmas.{walk_done, last_is}
use Rattle.mi_laws.proofs.ClientPhaseLemmas.{begins_product_name}
use Rattle.mi_laws.proofs.SeenLemmas.{IsSeen}
use Rattle.mi_laws.proofs.ClientWalkLemmas.{walked_end}
use Rattle.mi_laws.specs.Walks.{IsCommitted}
use Rattle.mi_laws.proofs.TidyLemmas.{IsTidy, tidy_of}
use Rattle.mi_laws.proofs.ClientRowLemmas.{has_row}
use Rattle.mi_laws.proofs.ClientNameLemmas.{product_of_name, begins_client_name, isnt_true, other_client, zero_is_code}
use Rattle.mi_laws.proofs.CommittedLemmas.{made_committed}

some_none : {X Y : Type 0} (o : Option X) → IsSome o → o ≡ None → Y
some_none (Some x) some none = cc
some_none None some none = cc

-- what holds of the machine, with that the row is that of a row of Component
abbrev pub KnowsRows : (ℕ → List ComponentRow) → Machine → Type 0
KnowsRows rows m = (id product : ℕ) → IsCode product → IsSome (client_at m id product) → (product ≡ the_system) ⊎ (IsSome (product_at m product) × (has_row (rows product) product (client_name id product) ≡ true))

module _ (rows : ℕ → List ComponentRow) (g : Given) (tidy : IsTidy g) (same_rows : HasRows rows g) (knows : KnowsRows rows g.former) (m : Machine) (begun : List Name) (choice : Option Selection) (s : IsSeen g begun choice m) where
  abbrev own : ℕ
  own = product_code g.rows

  none_ran : is_among (codes "ProcessComponents") begun ≡ false → is_among (codes "PublishProduct") begun ≡ false → KnowsRows rows m
  none_ran not_c not_p id product code some = by (knows id product code (subst IsSome (ap as_client (s.unprocessed not_c (client_name id product) (begins_client_name id product))) some))
    where
      by : (product ≡ the_system) ⊎ (IsSome (product_at g.former product) × (has_row (rows product) product (client_name id product) ≡ true)) → (product ≡ the_system) ⊎ (IsSome (product_at m product) × (has_row (rows product) product (client_name id product) ≡ true))
      by (inl e) = inl e
      by (inr k) = inr (subst IsSome (sym (ap as_product (s.unpublished not_p (product_name product) (begins_product_name product)))) k.0, k.1)

  -- a row of another product
  other_ran : (id product : ℕ) → IsCode product → (product ≡ the_system → ⊥) → (product ≡ own → ⊥) → IsSome (client_at m id product) → (product ≡ the_system) ⊎ (IsSome (product_at m product) × (has_row (rows product) product (client_name id product) ≡ true))
  other_ran id product code not_system not_own some =
      by (knows id product code (subst IsSome (ap as_client (s.others (client_name id product) (begins_client_name id product) (other_client id product own code tidy.code not_own) (other_client id product the_system code zero_is_code not_system))) some))
    where
      by : (product ≡ the_system) ⊎ (IsSome (product_at g.former product) × (has_row (rows product) product (client_name id product) ≡ true)) → (product ≡ the_system) ⊎ (IsSome (product_at m product) × (has_row (rows product) product (client_name id product) ≡ true))
      by (inl e) = inl e
      by (inr k) = inr (subst IsSome (sym (ap as_product (s.products (product_name product) (begins_product_name product) (isnt_true _ (λ same. not_own (product_of_name product own code tidy.code (from_same (product_name product) (product_name own) same))))))) k.0, k.1)

  -- one of this product
  module _ (ran_c : is_among (codes "ProcessComponents") begun ≡ true) (ran_p : is_among (codes "PublishProduct") begun ≡ true) (t : Selection) (chosen : choice ≡ Some t) (id : ℕ) (not_system : own ≡ the_system → ⊥) (some : IsSome (client_at m id own)) where
    abbrev q : Name
    q = client_name id own

    system : (jd : ℕ) → same_name q (client_name jd the_system) ≡ false
    system = other_client id own the_system tidy.code zero_is_code not_system

    has : has_row g.rows.component own q ≡ true
    has = by (s.own q (begins_client_name id own) system)
      where
        known : (own ≡ the_system) ⊎ (IsSome (product_at g.former own) × (has_row (rows own) own q ≡ true)) → has_row g.rows.component own q ≡ true
        known (inl e) = absurd (not_system e)
        known (inr k) = ap (λ cs. has_row cs own q) same_rows ∙ k.1

        by : (get m q ≡ get g.former q) ⊎ (has_row g.rows.component own q ≡ true) → has_row g.rows.component own q ≡ true
        by (inl e) = known (knows id own tidy.code (subst IsSome (ap as_client e) some))
        by (inr h) = h

    recorded : (fs : List Text) → t.local_after ≡ fs → IsSome (product_at m own)
    recorded (f ∷ fs) is = subst IsSome (sym (ap as_product (s.published ran_p t chosen ∙ ap (product_after g.rows) is))) refl
    recorded [] is = by (as_client (get g.former q)) refl
      where
        by : (o : Option Client) → as_client (get g.former q) ≡ o → IsSome (product_at m own)
        by (Some c) e = some_none (client_at m id own) some (ap as_client (s.gone ran_c t chosen is q (begins_client_name id own) has (ap is_some e)))
        by None e = some_none (client_at m id own) some (ap as_client (s.absent ran_c t chosen is q (begins_client_name id own) e) ∙ e)

    own_ran : (own ≡ the_system) ⊎ (IsSome (product_at m own) × (has_row (rows own) own q ≡ true))
    own_ran = inr (recorded t.local_after refl, ap (λ cs. has_row cs own q) (sym same_rows) ∙ has)

  both_ran : is_among (codes "ProcessComponents") begun ≡ true → is_among (codes "PublishProduct") begun ≡ true → KnowsRows rows m
  both_ran ran_c ran_p id product code some = by_choice choice refl (s.costed (s.processed_costed ran_c))
    where
      by_own : (t : Selection) → choice ≡ Some t → (product ≡ the_system → ⊥) → (b : Bool) → (product == own) ≡ b → (product ≡ the_system) ⊎ (IsSome (product_at m product) × (has_row (rows product) product (client_name id product) ≡ true))
      by_own t is not_system true e =
          let same : product ≡ own = grind (arith, nat_tests, e) in
          subst (λ p. (p ≡ the_system) ⊎ (IsSome (product_at m p) × (has_row (rows p) p (client_name id p) ≡ true))) (sym same)
          (own_ran ran_c ran_p t is id (λ z. not_system (same ∙ z)) (subst (λ p. IsSome (client_at m id p)) same some))
      by_own t is not_system false e = other_ran id product code not_system (λ same. grind (arith, nat_tests, e, same)) some

      by_system : (t : Selection) → choice ≡ Some t → (b : Bool) → (product == 0) ≡ b → (product ≡ the_system) ⊎ (IsSome (product_at m product) × (has_row (rows product) product (client_name id product) ≡ true))
      by_system t is true e = inl (grind (arith, nat_tests, e))
      by_system t is false e = by_own t is (λ z. grind (arith, nat_tests, e, z)) (product == own) refl

      by_choice : (o : Option Selection) → choice ≡ o → IsSome o → (product ≡ the_system) ⊎ (IsSome (product_at m product) × (has_row (rows product) product (client_name id product) ≡ true))
      by_choice (Some t) is there = by_system t is (product == 0) refl
      by_choice None is there = cc

  by_phases : (b : Bool) → is_among (codes "ProcessComponents") begun ≡ b → is_among (codes "ProcessComponents") begun ≡ is_among (codes "PublishProduct") begun → KnowsRows rows m
  by_phases true is same = both_ran is (sym same ∙ is)
  by_phases false is same = none_ran is (sym same ∙ is)

pub run_knows : (rows : ℕ → List ComponentRow) (g : Given) → IsTidy g → HasRows rows g → HasBothOrNeither g → (walk g).refusal ≡ None → KnowsRows rows g.former → KnowsRows rows (last_machine (walk g))
run_knows rows g tidy same both none knows =
    let done = walk_done g none in
    let walked = walked_end g tidy _ done in
    subst (KnowsRows rows) (sym (last_is g _ done walked.sound))
    (by_phases rows g tidy same knows _ _ _ walked.seen _ refl (subst (λ (w : Walked). is_among (codes "ProcessComponents") w.begun ≡ is_among (codes "PublishProduct") w.begun) done.whole both))

-- ---- event by event

committed_knows : (rows : ℕ → List ComponentRow) (g : Given) → HasRows rows g → HasBothOrNeither g → IsCommitted g → KnowsRows rows g.former → KnowsRows rows (last_machine (walk g))
committed_knows rows g same both made knows = run_knows rows g (tidy_of g made.loaded) same both made.unrefused knows

walks_know : (rows : ℕ → List ComponentRow) (c : Call) (m : Machine) (r : Result Command ℕ) → AllByRecursion HasBothOrNeither (walked_over c m r) → AllByRecursion (HasRows rows) (walked_over c m r)
    → AllByRecursion IsCommitted (walked_over c m r) → KnowsRows rows m → KnowsRows rows (after_walks m (walked_over c m r))
walks_know rows c m (Ok (Package recorded folder words)) both same made knows = committed_knows rows (given_of c.files folder words m c.now) same.0 both.0 made.0 knows
walks_know rows c m (Ok (Selftest files words)) both same made knows = committed_knows rows (given_of (selftest_files files) (codes "self") words m c.now) same.0 both.0 made.0 knows
walks_know rows c m (Ok Clients) both same made knows = knows
walks_know rows c m (Ok Products) both same made knows = knows
walks_know rows c m (Ok Recover) both same made knows = knows
walks_know rows c m (Err place) both same made knows = knows

module _ (rows : ℕ → List ComponentRow) where
  left_knows : (c : Call) (d d' : Map) (m : Machine) (left : Left) → IsMachineOf m d → Leaves c d left d' → AllByRecursion HasBothOrNeither (walks_left c m left) → AllByRecursion (HasRows rows) (walks_left c m left)
      → KnowsRows rows m → KnowsRows rows (after_left c m left)
  left_knows c d d' m Former is leaves both same knows = knows
  left_knows c d d' m After is leaves both same knows = walks_know rows c m (command_of c.words) both same (made_committed c d m leaves.0 is leaves.1) knows

  event_knows : (d d' : Map) (m : Machine) (e : Event) → IsMachineOf m d → IsEvent d e d' → AllByRecursion HasBothOrNeither (committed m e) → AllByRecursion (HasRows rows) (committed m e) → KnowsRows rows m → KnowsRows rows (after_event m e)
  event_knows d d' m (Answered c k left) is event both same knows = left_knows c d d' m left is event.1 both same knows
  event_knows d d' m (Stopped c left) is event both same knows = left_knows c d d' m left is event both same knows
  event_knows d d' m Settling is event both same knows = knows

  split : (P : Given → Type 0) (a b : List Given) → AllByRecursion P (a ++ b) → AllByRecursion P a × AllByRecursion P b
  split P [] b all = (tt, all)
  split P (x ∷ a) b all = let rest = split P a b all.1 in ((all.0, rest.0), rest.1)

  goes_know : (d d' : Map) (m : Machine) (es : List Event) → IsMachineOf m d → GoesBy d es d' → AllByRecursion HasBothOrNeither (all_committed m es) → AllByRecursion (HasRows rows) (all_committed m es)
      → KnowsRows rows m → KnowsRows rows (fold after_event m es)
  goes_know d d' m [] is goes both same knows = knows
  goes_know d d' m (e ∷ es) is goes both same knows =
      let b = split HasBothOrNeither (committed m e) (all_committed (after_event m e) es) both in
      let s = split (HasRows rows) (committed m e) (all_committed (after_event m e) es) same in
      goes_know goes.0 d' (after_event m e) es (event_machine d goes.0 m e is goes.1) goes.2 b.1 s.1 (event_knows d goes.0 m e is goes.1 b.0 s.0 knows)

  empty_knows : KnowsRows rows empty
  empty_knows id product code some = some_none (client_at empty id product) some (ap as_client (get-empty name_cmp (client_name id product)))

pub law_clients : ClientsNameProducts
law_clients = record { clients = λ rows es d history both same id product code some. by rows (machine_after es) id product (goes_know rows empty d empty es empty_is history both same (empty_knows rows) id product code some) }
  where
    by : (rows : ℕ → List ComponentRow) (m : Machine) (id product : ℕ) → (product ≡ the_system) ⊎ (IsSome (product_at m product) × (has_row (rows product) product (client_name id product) ≡ true)) → (product ≡ the_system) ⊎ IsSome (product_at m product)
    by rows m id product (inl e) = inl e
    by rows m id product (inr k) = inr k.0
