-- The rows of Component of an id, and the clients of it before a run.
use Rattle.std.proofs.Common.{◌≡◌, ℕ, Bool, true, false, cond, ◌||◌, List, [], ◌∷◌, Option, Some, None, refl, sym, ap, subst, ◌∙◌, arith}
use Rattle.std.specs.Prelude.{◌&&◌, not, codes, IfSome, ◌==◌}
use Rattle.std.specs.List.{list_any, AllByRecursion, filter_map, cons_option}
use Rattle.std.specs.Option.{option_flatten, option_map_or}
use Rattle.std.specs.FinMap.{get, entries, find, get-entries}
use Rattle.mi_text.specs.Maps.{Name, same_name, name_cmp}
use Rattle.mi_text.proofs.MapLemmas.{from_same, same_itself}
use Rattle.mi_base.specs.Names.{client_name}
use Rattle.mi_base.specs.Machine.{Machine, IsMachine, client_at, as_client}
use Rattle.mi_schema.specs.TableRows.{Numbered, product_code}
use Rattle.mi_schema.specs.declared.typed_rows.ComponentRow.{ComponentRow}
use Rattle.mi_model.specs.World.{Given, Action, MakeAbsent}
use Rattle.mi_model.specs.Components.{has_other_client}
use Rattle.mi_model.specs.Conditions.{has}
use Rattle.mi_model.specs.States.{named}
use Rattle.mi_laws.proofs.SelectLemmas.{both_of}
use Rattle.mi_laws.proofs.ClientNameLemmas.{client_id, client_code}
use Rattle.std.proofs.lemmas.Bool.Decides.{nat_tests}
use Rattle.std.specs.Ordering.{is_eq}
use Rattle.mi_text.specs.declared.guid.Guid.{Guid}
use Rattle.mi_base.specs.Limits.{IsEntry}
use Rattle.mi_base.specs.declared.entry.Client.{Client}
use Rattle.mi_base.specs.declared.entry.Entry.{Entry}
use Rattle.mi_base.specs.declared.entry.Entry.TheVariants as entry
use Rattle.mi_base.specs.declared.entry.Entry.TheVariants.{Client as ClientEntry}
use Rattle.mi_image.specs.Lists.{with_component, clients_with}
use Rattle.mi_schema.specs.Laws.{HasOtherCode}
use Rattle.mi_laws.specs.Clients.{IsCode, has_id}
use Rattle.mi_laws.specs.Removal.{may_leave}
use Rattle.mi_laws.proofs.ClientRowLemmas.{is_row_of}
use Rattle.mi_laws.proofs.KeyOrderLemmas.{AreApart, only_one}
use Rattle.mi_laws.proofs.TableLemmas.{AreOther, HaveOwnIds, HasCode}

abbrev pub IdIs : ℕ → Option Guid → Type 0
IdIs id None = ⊥
IdIs id (Some i) = i.number ≡ id

abbrev pub HasId : ℕ → ComponentRow → Type 0
HasId id r = IdIs id r.component_id

-- this client row is that of this id, for this product
abbrev pub is_client : Name → ℕ → Option Guid → Bool
is_client q product o = option_map_or (λ (i : Guid). same_name q (client_name i.number product)) o false

module _ (component : Name) (id : ℕ) where
  abbrev IsNamed : ComponentRow → Type 0
  IsNamed r = component ≡ r.component

  id_in : (o : Option Guid) → option_map_or (λ (i : Guid). i.number == id) o false ≡ true → IdIs id o
  id_in None e = cc
  id_in (Some i) e = grind (arith, nat_tests, e)

  has_both : (r : ComponentRow) → has_id component id r ≡ true → HasId id r × IsNamed r
  has_both r e = let both = both_of (same_name component r.component) (option_map_or (λ (i : Guid). i.number == id) r.component_id false) e in (id_in r.component_id both.1, from_same component r.component both.0)

  has_both_other : (r : ComponentRow) → has_id component id r ≡ true → IsNamed r × HasId id r
  has_both_other r e = let both = has_both r e in (both.1, both.0)

  not_both : (x y : Option Guid) → HasOtherCode x y → IdIs id x → IdIs id y → ⊥
  not_both None y other is also = is
  not_both (Some i) None other is also = also
  not_both (Some i) (Some j) other is also =
      let same : ◌≡◌ {A = Option Guid} (Some j) (Some i) = ap (λ (n : ℕ). Some (record { number = n })) (also ∙ sym is) in
      other same

  -- the row of an id is that of one component, and a component has one id
  pub ids_named : (rows : List ComponentRow) → HaveOwnIds rows → list_any (has_id component id) rows ≡ true → AllByRecursion (λ (r : ComponentRow). HasId id r → IsNamed r) rows
  ids_named rows own there = only_one AreOther (HasId id) IsNamed (λ a b. not_both a.component_id b.component_id) (has_id component id) has_both rows own there

  pub named_ids : (rows : List ComponentRow) → AreApart (λ (r : ComponentRow). r.component) rows → list_any (has_id component id) rows ≡ true → AllByRecursion (λ (r : ComponentRow). IsNamed r → HasId id r) rows
  named_ids rows apart there = only_one (λ (a b : ComponentRow). a.component ≡ b.component → ⊥) IsNamed (HasId id) (λ a b differ p q. differ (sym p ∙ q)) (has_id component id) has_both_other rows apart there

  code_in : (o : Option Guid) → IfSome o (λ (i : Guid). IsCode i.number) → IdIs id o → IsCode id
  code_in None code is = absurd is
  code_in (Some i) code is = subst IsCode is code

  pub id_code : (rows : List ComponentRow) → AllByRecursion HasCode rows → list_any (has_id component id) rows ≡ true → IsCode id
  id_code [] all e = cc
  id_code (r ∷ rows) all e = by (has_id component id r) refl e (id_code rows all.1)
    where
      by : (b : Bool) → has_id component id r ≡ b → (b || list_any (has_id component id) rows) ≡ true → (list_any (has_id component id) rows ≡ true → IsCode id) → IsCode id
      by true is e later = code_in r.component_id all.0 (has_both r is).0
      by false is e later = later e

  -- ---- the client rows of an id are those of its row

  by_client : (product other : ℕ) → IsCode id → (o : Option Guid) → IfSome o (λ (i : Guid). IsCode i.number) → is_client (client_name id product) other o ≡ true → IdIs id o
  by_client product other code None codes is = cc
  by_client product other code (Some i) codes is = sym (client_id id i.number product other code codes (from_same (client_name id product) (client_name i.number other) is))

  pub clients_named : (product other : ℕ) → IsCode id → (rows : List ComponentRow) → AllByRecursion HasCode rows → AllByRecursion (λ (r : ComponentRow). HasId id r → IsNamed r) rows
      → AllByRecursion (λ (r : ComponentRow). is_client (client_name id product) other r.component_id ≡ true → IsNamed r) rows
  clients_named product other code [] codes all = tt
  clients_named product other code (r ∷ rows) codes all = (λ is. all.0 (by_client product other code r.component_id codes.0 is), clients_named product other code rows codes.1 all.1)

  has_client : (product : ℕ) (o : Option Guid) → IdIs id o → is_client (client_name id product) product o ≡ true
  has_client product None is = absurd is
  has_client product (Some i) is = ap (λ (n : ℕ). same_name (client_name id product) (client_name n product)) is ∙ same_itself (client_name id product)

  pub any_client : (product : ℕ) (rows : List ComponentRow) → list_any (has_id component id) rows ≡ true → list_any (λ (r : ComponentRow). is_client (client_name id product) product r.component_id) rows ≡ true
  any_client product [] e = cc
  any_client product (r ∷ rows) e = by (has_id component id r) refl e (any_client product rows)
    where
      further : (a b : Bool) → b ≡ true → (a || b) ≡ true
      further true b e = refl
      further false b e = e

      by : (b : Bool) → has_id component id r ≡ b → (b || list_any (has_id component id) rows) ≡ true
          → (list_any (has_id component id) rows ≡ true → list_any (λ (r : ComponentRow). is_client (client_name id product) product r.component_id) rows ≡ true)
          → (is_client (client_name id product) product r.component_id || list_any (λ (r : ComponentRow). is_client (client_name id product) product r.component_id) rows) ≡ true
      by true is e later = ap (λ b. b || list_any (λ (r : ComponentRow). is_client (client_name id product) product r.component_id) rows) (has_client product r.component_id (has_both r is).0)
      by false is e later = further (is_client (client_name id product) product r.component_id) _ (later e)

  -- if the component is made absent, so is each with this client row
  pub taken_by : (acts : List (Name × Option Action)) (product other : ℕ) (rows : List (Numbered ComponentRow)) → named component acts ≡ Some (Some MakeAbsent) → AllByRecursion (λ (c : Numbered ComponentRow). is_client (client_name id product) other c.row.component_id ≡ true → IsNamed c.row) rows
      → AllByRecursion (λ (c : Numbered ComponentRow). is_row_of other (client_name id product) c ≡ true → option_flatten (named c.row.component acts) ≡ Some MakeAbsent) rows
  taken_by acts product other [] absent all = tt
  taken_by acts product other (c ∷ rows) absent all = (λ is. ap (λ (n : Name). option_flatten (named n acts)) (sym (all.0 is)) ∙ ap option_flatten absent, taken_by acts product other rows absent all.1)

-- ---- before the run no other is a client

turned : (b : Bool) → not b ≡ true → b ≡ false
turned true e = cc
turned false e = refl

abbrev is_other : ℕ → Client → Bool
is_other own c = not (c.product.number == own)

other_is : (n own : ℕ) → (n ≡ own → ⊥) → not (n == own) ≡ true
other_is n own isnt = by (n == own) refl
  where
    by : (b : Bool) → (n == own) ≡ b → not b ≡ true
    by true e = absurd (isnt (grind (arith, nat_tests, e)))
    by false e = refl

-- a client of this id is among its clients
listed : (own id : ℕ) (c : Client) → c.component.number ≡ id → is_other own c ≡ true → (q : Name) (es : List (Name × Entry)) → find name_cmp q es ≡ Some (ClientEntry c)
    → list_any (is_other own) (filter_map (λ (x : Name × Entry). with_component id (as_client (Some x.1))) es) ≡ true
listed own id c is other q [] at = cc
listed own id c is other q (x ∷ es) at = by (is_eq (name_cmp q x.0)) at (listed own id c is other q es)
  where
    behind : List Client
    behind = filter_map (λ (x : Name × Entry). with_component id (as_client (Some x.1))) es

    same_number : (n k : ℕ) → n ≡ k → (n == k) ≡ true
    same_number n k e = grind (arith, nat_tests, e)

    further : (o : Option Client) → list_any (is_other own) behind ≡ true → list_any (is_other own) (cons_option o behind) ≡ true
    further None e = e
    further (Some d) e = by (is_other own d)
      where
        by : (b : Bool) → (b || list_any (is_other own) behind) ≡ true
        by true = refl
        by false = e

    by : (b : Bool) → cond b (Some x.1) (find name_cmp q es) ≡ Some (ClientEntry c) → (find name_cmp q es ≡ Some (ClientEntry c) → list_any (is_other own) behind ≡ true)
        → list_any (is_other own) (cons_option (with_component id (as_client (Some x.1))) behind) ≡ true
    by true at later =
        ap (λ (o : Option Entry). list_any (is_other own) (cons_option (with_component id (as_client o)) behind)) at
        ∙ ap (λ b. list_any (is_other own) (cons_option (cond b (Some c) None) behind)) (same_number c.component.number id is)
        ∙ ap (λ b. b || list_any (is_other own) behind) other
    by false at later = further (with_component id (as_client (Some x.1))) (later at)

module _ (m : Machine) (machine : IsMachine m) (own id product : ℕ) (id_is : IsCode id) (product_is : IsCode product) (isnt : product ≡ own → ⊥) (free : has_other_client m own (Some (record { number = id })) ≡ false) where
  never : (c : Client) → get m (client_name id product) ≡ Some (ClientEntry c) → ⊥
  unfolding has_other_client clients_with IsEntry
  never c at =
      let is = machine (client_name id product) (ClientEntry c) at in
      let same_id = client_id c.component.number id c.product.number product is.1.0.0 id_is is.0 in
      let same_product = client_code c.component.number id c.product.number product is.1.0.1 product_is is.0 in
      let there = listed own id c same_id (other_is c.product.number own (λ e. isnt (sym same_product ∙ e))) (client_name id product) (entries m) (sym (get-entries m (client_name id product)) ∙ at) in
      let both : true ≡ false = sym there ∙ free in
      cc

  none_of : (o : Option Entry) → get m (client_name id product) ≡ o → as_client o ≡ None
  none_of None at = refl
  none_of (Some (ClientEntry c)) at = absurd (never c at)
  none_of (Some (entry.File f)) at = refl
  none_of (Some (entry.Folder shown)) at = refl
  none_of (Some (entry.Value k v)) at = refl
  none_of (Some (entry.Key root shown)) at = refl
  none_of (Some (entry.Shortcut s)) at = refl
  none_of (Some (entry.Variable v)) at = refl
  none_of (Some (entry.Product p)) at = refl
  none_of (Some (entry.System property text)) at = refl

  pub no_client : client_at m id product ≡ None
  no_client = none_of (get m (client_name id product)) refl

-- no other is a client of the id of a component that may leave
pub free_of : (g : Given) (component : Name) (id : ℕ) (rows : List ComponentRow) → AllByRecursion (λ (r : ComponentRow). component ≡ r.component → HasId id r) rows → list_any (may_leave g component) rows ≡ true
    → has_other_client g.former (product_code g.rows) (Some (record { number = id })) ≡ false
free_of g component id [] all e = cc
free_of g component id (r ∷ rows) all e = by (may_leave g component r) refl e (free_of g component id rows all.1)
  where
    of_id : (o : Option Guid) → IdIs id o → not (has_other_client g.former (product_code g.rows) o) ≡ true → has_other_client g.former (product_code g.rows) (Some (record { number = id })) ≡ false
    of_id None is e = absurd is
    of_id (Some i) is e = turned _ (subst (λ (n : ℕ). not (has_other_client g.former (product_code g.rows) (Some (record { number = n }))) ≡ true) is e)

    by : (b : Bool) → may_leave g component r ≡ b → (b || list_any (may_leave g component) rows) ≡ true → (list_any (may_leave g component) rows ≡ true → has_other_client g.former (product_code g.rows) (Some (record { number = id })) ≡ false)
        → has_other_client g.former (product_code g.rows) (Some (record { number = id })) ≡ false
    by true is e later =
        let alone = both_of (same_name component r.component && not (has 16 r.attributes)) (not (has_other_client g.former (product_code g.rows) r.component_id)) is in
        let one = both_of (same_name component r.component) (not (has 16 r.attributes)) alone.0 in
        of_id r.component_id (all.0 (from_same component r.component one.0)) alone.1
    by false is e later = later e
