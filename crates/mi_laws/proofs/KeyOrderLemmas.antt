-- Rows of a table in the order of their keys: each is there, and is found by its key.
use Rattle.std.proofs.Common.{◌≡◌, ℕ, suc, Bool, true, false, cond, ◌||◌, T, List, [], ◌∷◌, map, Some, refl, sym, ap, subst, ◌∙◌}
use Rattle.std.specs.Prelude.{◌&&◌, find, option_map}
use Rattle.std.specs.List.{list_any, AllByRecursion}
use Rattle.std.specs.declared.cmp.Ordering.{Ordering}
use Rattle.std.specs.declared.cmp.Ordering.TheVariants.{Less, Equal, Greater}
use Rattle.std.specs.Ordering.{is_lt, is_eq}
use Rattle.std.specs.FinMap.{entries, from_entries, entries-insert, entries_sorted}
use Rattle.std.specs.FinMap.Entries.{put, by_order, is_sorted, below_all}
use Rattle.mi_text.specs.Maps.{Name, same_name, name_cmp}
use Rattle.mi_text.proofs.MapLemmas.{names_total, names_exact, entries-from_entries, from_same, same_itself}
use Rattle.mi_schema.specs.TableRows.{Numbered, numbered_from, in_key_order}
use Rattle.mi_model.specs.States.{named}

left : (a b : Bool) → T (a && b) → T a
left true b p = tt
left false b p = p

right : (a b : Bool) → T (a && b) → T b
right true b p = p
right false b p = absurd p

swapped : (a b c : Bool) → (a || (b || c)) ≡ (b || (a || c))
swapped true true c = refl
swapped true false c = refl
swapped false b c = refl

-- a name below another is another
not_below : (a b : Name) → T (is_lt (name_cmp a b)) → same_name b a ≡ false
not_below a b lt = by (same_name b a) refl
  where
    never : (o : Ordering) → T (is_lt o) → is_eq o ≡ true → ⊥
    never Less lt e = cc
    never Equal lt e = lt
    never Greater lt e = lt

    by : (t : Bool) → same_name b a ≡ t → t ≡ false
    by true is = absurd (never (name_cmp a a) (subst (λ (n : Name). T (is_lt (name_cmp a n))) (from_same b a is) lt) (same_itself a))
    by false is = refl

-- ---- rows that differ two by two

-- each is related so to each later one
abbrev pub AreEach : {R : Type 0} → (R → R → Type 0) → List R → Type 0
AreEach D [] = Unit {0}
AreEach D (r ∷ rows) = AllByRecursion (D r) rows × AreEach D rows

-- Of rows that differ so at most one has P: if one that passes has P and S, each that has P has S.
module _ {R : Type 0} (D : R → R → Type 0) (P S : R → Type 0) (differ : (a b : R) → D a b → P a → P b → ⊥) (test : R → Bool) (passes : (r : R) → test r ≡ true → P r × S r) where
  none_later : (a : R) (rows : List R) → AllByRecursion (D a) rows → P a → list_any test rows ≡ true → ⊥
  none_later a [] each p e = cc
  none_later a (r ∷ rows) each p e = by (test r) refl e (none_later a rows each.1 p)
    where
      by : (b : Bool) → test r ≡ b → (b || list_any test rows) ≡ true → (list_any test rows ≡ true → ⊥) → ⊥
      by true is e later = differ a r each.0 p (passes r is).0
      by false is e later = later e

  none_has : (a : R) (rows : List R) → AllByRecursion (D a) rows → P a → AllByRecursion (λ (r : R). P r → S r) rows
  none_has a [] each p = tt
  none_has a (r ∷ rows) each p = (λ q. absurd (differ a r each.0 p q), none_has a rows each.1 p)

  pub only_one : (rows : List R) → AreEach D rows → list_any test rows ≡ true → AllByRecursion (λ (r : R). P r → S r) rows
  only_one [] each e = tt
  only_one (r ∷ rows) each e = by (test r) refl e (only_one rows each.1)
    where
      by : (b : Bool) → test r ≡ b → (b || list_any test rows) ≡ true → (list_any test rows ≡ true → AllByRecursion (λ (x : R). P x → S x) rows) → AllByRecursion (λ (x : R). P x → S x) (r ∷ rows)
      by true is e later = let both = passes r is in (λ p. both.1, none_has r rows each.0 both.0)
      by false is e later = (λ p. absurd (none_later r rows each.0 p e), later e)

module _ {R : Type 0} (key : R → Name) where
  -- no row has this key
  abbrev pub IsNew : Name → List R → Type 0
  IsNew k rows = AllByRecursion (λ (r : R). k ≡ key r → ⊥) rows

  -- no two rows have one key
  abbrev pub AreApart : List R → Type 0
  AreApart rows = AreEach (λ (a b : R). key a ≡ key b → ⊥) rows

  abbrev Placed : Type 0
  Placed = Name × Numbered R

  abbrev pairs : ℕ → List R → List Placed
  pairs n rows = map (λ (r : Numbered R). (key r.row, r)) (numbered_from n rows)

  abbrev made : ℕ → List R → List Placed
  made n rows = entries (from_entries {R = name_cmp} (pairs n rows))

  next : (n : ℕ) (r : R) (rows : List R) → made n (r ∷ rows) ≡ put name_cmp (key r) (record { number = n; row = r }) (made (suc n) rows)
  next n r rows = entries-insert names_total (from_entries {R = name_cmp} (pairs (suc n) rows)) (key r) (record { number = n; row = r })

  none_made : (n : ℕ) → made n [] ≡ []
  none_made n = entries-from_entries {X = Numbered R} [] tt

  -- ---- what all rows have, those in order have

  module _ (P : Placed → Type 0) where
    all_put : (k : Name) (v : Numbered R) (es : List Placed) → ((n : Name) → k ≡ n → P (n, v)) → AllByRecursion P es → AllByRecursion P (put name_cmp k v es)
    all_put k v [] here all = (here k refl, tt)
    all_put k v (e ∷ es) here all = by (name_cmp k e.0) refl (all_put k v es here all.1)
      where
        by : (o : Ordering) → name_cmp k e.0 ≡ o → AllByRecursion P (put name_cmp k v es) → AllByRecursion P (by_order o ((k, v) ∷ e ∷ es) ((e.0, v) ∷ es) (e ∷ put name_cmp k v es))
        by Less is rest = (here k refl, all)
        by Equal is rest = (here e.0 (names_exact k e.0 is), all.1)
        by Greater is rest = (all.0, rest)

    all_made : (S : R → Type 0) → ((n : Name) (r : Numbered R) → key r.row ≡ n → S r.row → P (n, r)) → (n : ℕ) (rows : List R) → AllByRecursion S rows → AllByRecursion P (made n rows)
    all_made S here n [] all = subst (AllByRecursion P) (sym (none_made n)) tt
    all_made S here n (r ∷ rows) all =
        subst (AllByRecursion P) (sym (next n r rows))
        (all_put (key r) (record { number = n; row = r }) (made (suc n) rows) (λ m is. here m (record { number = n; row = r }) is all.0) (all_made S here (suc n) rows all.1))

  all_values : (Q : R → Type 0) (es : List Placed) → AllByRecursion (λ (e : Placed). Q e.1.row) es → AllByRecursion (λ (c : Numbered R). Q c.row) (map (λ (e : Placed). e.1) es)
  all_values Q [] all = tt
  all_values Q (e ∷ es) all = (all.0, all_values Q es all.1)

  pub all_ordered : (Q : R → Type 0) (rows : List R) → AllByRecursion Q rows → AllByRecursion (λ (c : Numbered R). Q c.row) (in_key_order key rows)
  unfolding in_key_order
  all_ordered Q rows all = all_values Q (made 1 rows) (all_made (λ (e : Placed). Q e.1.row) Q (λ m r is q. q) 1 rows all)

  -- ---- each row is there

  module _ (test : R → Bool) where
    abbrev any_in : List Placed → Bool
    any_in es = list_any (λ (e : Placed). test e.1.row) es

    any_put : (k : Name) (v : Numbered R) (es : List Placed) → AllByRecursion (λ (e : Placed). k ≡ e.0 → ⊥) es → any_in (put name_cmp k v es) ≡ (test v.row || any_in es)
    any_put k v [] new = refl
    any_put k v (e ∷ es) new = by (name_cmp k e.0) refl (any_put k v es new.1)
      where
        by : (o : Ordering) → name_cmp k e.0 ≡ o → any_in (put name_cmp k v es) ≡ (test v.row || any_in es) → any_in (by_order o ((k, v) ∷ e ∷ es) ((e.0, v) ∷ es) (e ∷ put name_cmp k v es)) ≡ (test v.row || any_in (e ∷ es))
        by Less is rest = refl
        by Equal is rest = absurd (new.0 (names_exact k e.0 is))
        by Greater is rest = ap (λ b. test e.1.row || b) rest ∙ swapped (test e.1.row) (test v.row) (any_in es)

    any_made : (n : ℕ) (rows : List R) → AreApart rows → any_in (made n rows) ≡ list_any test rows
    any_made n [] apart = ap any_in (none_made n)
    any_made n (r ∷ rows) apart =
        ap any_in (next n r rows)
        ∙ any_put (key r) (record { number = n; row = r }) (made (suc n) rows) (all_made (λ (e : Placed). key r ≡ e.0 → ⊥) (λ (x : R). key r ≡ key x → ⊥) (λ m x is new e. new (e ∙ sym is)) (suc n) rows apart.0)
        ∙ ap (λ b. test r || b) (any_made (suc n) rows apart.1)

    none_of : (rows : List R) → list_any test rows ≡ false → AllByRecursion (λ (r : R). test r ≡ false) rows
    none_of [] e = tt
    none_of (r ∷ rows) e = by (test r) refl e (none_of rows)
      where
        by : (b : Bool) → test r ≡ b → (b || list_any test rows) ≡ false → (list_any test rows ≡ false → AllByRecursion (λ (x : R). test x ≡ false) rows) → AllByRecursion (λ (x : R). test x ≡ false) (r ∷ rows)
        by true is e later = cc
        by false is e later = (is, later e)

    none_any : (cs : List (Numbered R)) → AllByRecursion (λ (c : Numbered R). test c.row ≡ false) cs → list_any (λ (c : Numbered R). test c.row) cs ≡ false
    none_any [] all = refl
    none_any (c ∷ cs) all = ap (λ b. b || list_any (λ (x : Numbered R). test x.row) cs) all.0 ∙ none_any cs all.1

    -- one that is there in order is a row of the table
    pub any_within : (rows : List R) → list_any (λ (c : Numbered R). test c.row) (in_key_order key rows) ≡ true → list_any test rows ≡ true
    any_within rows e = by (list_any test rows) refl
      where
        by : (b : Bool) → list_any test rows ≡ b → b ≡ true
        by true is = refl
        by false is = let both = sym (none_any (in_key_order key rows) (all_ordered (λ (r : R). test r ≡ false) rows (none_of rows is))) ∙ e in cc

    any_values : (es : List Placed) → list_any (λ (c : Numbered R). test c.row) (map (λ (e : Placed). e.1) es) ≡ any_in es
    any_values [] = refl
    any_values (e ∷ es) = ap (λ b. test e.1.row || b) (any_values es)

    pub any_ordered : (rows : List R) → AreApart rows → list_any (λ (c : Numbered R). test c.row) (in_key_order key rows) ≡ list_any test rows
    unfolding in_key_order
    any_ordered rows apart = any_values (made 1 rows) ∙ any_made 1 rows apart

  -- ---- each is found by its key

  each_unit : (rows : List R) → AllByRecursion (λ (r : R). Unit {0}) rows
  each_unit [] = tt
  each_unit (r ∷ rows) = (tt, each_unit rows)

  module _ {X : Type 0} (f : R → X) where
    abbrev told : List Placed → List (Name × X)
    told es = map (λ (r : R). (key r, f r)) (map (λ (c : Numbered R). c.row) (map (λ (e : Placed). e.1) es))

    abbrev IsFound : List (Name × X) → Numbered R → Type 0
    IsFound ps c = named (key c.row) ps ≡ Some (f c.row)

    abbrev IsKeyed : Placed → Type 0
    IsKeyed e = e.0 ≡ key e.1.row

    -- what is found by a name among pairs whose first is this one, by whether it has that name
    abbrev found_by : Bool → R → R → List (Name × X) → Type 0
    found_by b r x ps = option_map (λ (p : Name × X). p.1) (cond b (Some (key r, f r)) (find (λ (p : Name × X). same_name (key x) p.0) ps)) ≡ Some (f x)

    here_found : (r : R) (ps : List (Name × X)) → named (key r) ((key r, f r) ∷ ps) ≡ Some (f r)
    here_found r ps = subst (λ b. found_by b r r ps) (sym (same_itself (key r))) refl

    further : (e : Placed) (ps : List (Name × X)) (es : List Placed) → IsKeyed e → T (below_all name_cmp e.0 es) → AllByRecursion IsKeyed es → AllByRecursion (IsFound ps) (map (λ (x : Placed). x.1) es)
        → AllByRecursion (IsFound ((key e.1.row, f e.1.row) ∷ ps)) (map (λ (x : Placed). x.1) es)
    further e ps [] is below keyed found = tt
    further e ps (x ∷ es) is below keyed found =
        let lt = subst (λ (n : Name). T (is_lt (name_cmp n (key x.1.row)))) is (subst (λ (n : Name). T (is_lt (name_cmp e.0 n))) keyed.0 (left (is_lt (name_cmp e.0 x.0)) (below_all name_cmp e.0 es) below)) in (
          subst (λ b. found_by b e.1.row x.1.row ps) (sym (not_below (key e.1.row) (key x.1.row) lt)) found.0,
          further e ps es is (right (is_lt (name_cmp e.0 x.0)) (below_all name_cmp e.0 es) below) keyed.1 found.1,
        )

    found_in : (es : List Placed) → T (is_sorted name_cmp es) → AllByRecursion IsKeyed es → AllByRecursion (IsFound (told es)) (map (λ (x : Placed). x.1) es)
    found_in [] sorted keyed = tt
    found_in (e ∷ es) sorted keyed = (
      here_found e.1.row (told es),
      further e (told es) es keyed.0 (left (below_all name_cmp e.0 es) (is_sorted name_cmp es) sorted) keyed.1 (found_in es (right (below_all name_cmp e.0 es) (is_sorted name_cmp es) sorted) keyed.1),
    )

    pub named_ordered : (rows : List R) → AllByRecursion (λ (c : Numbered R). named (key c.row) (map (λ (r : R). (key r, f r)) (map (λ (c : Numbered R). c.row) (in_key_order key rows))) ≡ Some (f c.row)) (in_key_order key rows)
    unfolding in_key_order
    named_ordered rows = found_in (made 1 rows) (entries_sorted (from_entries {R = name_cmp} (pairs 1 rows))) (all_made IsKeyed (λ (r : R). Unit {0}) (λ m r is u. sym is) 1 rows (each_unit rows))
