-- Rows of a table by their places and by their keys.
use Rattle.std.proofs.Common.{◌≡◌, ℕ, zero, suc, Bool, true, false, cond, List, [], ◌∷◌, map, Option, Some, None, refl, sym, ap, subst, ◌∙◌, arith, inl, inr, ◌⊎◌}
use Rattle.std.specs.Prelude.{slice_get, option_map, option_and_then, filter}
use Rattle.std.proofs.lemmas.Bool.{cases_Bool}
use Rattle.std.specs.declared.cmp.Ordering.{Ordering}
use Rattle.std.specs.declared.cmp.Ordering.TheVariants.{Less, Equal, Greater}
use Rattle.std.specs.FinMap.{entries, from_entries, entries-insert}
use Rattle.std.specs.FinMap.Entries.{put, by_order}
use Rattle.mi_text.specs.Maps.{Name, same_name, name_cmp}
use Rattle.mi_text.proofs.MapLemmas.{names_total, names_exact, entries-from_entries, from_same, same_itself}
use Rattle.mi_schema.specs.Checks.{row_with}
use Rattle.mi_schema.specs.TableRows.{row_of, Numbered, numbered_from, in_key_order}

-- one of these
abbrev pub In : {A : Type 0} → A → List A → Type 0
In x [] = ⊥
In x (y ∷ ys) = (x ≡ y) ⊎ In x ys

some_is : {A : Type 0} {x y : A} → Some x ≡ Some y → x ≡ y
some_is e = cc

pub in_place : {A : Type 0} (x : A) (xs : List A) → In x xs → (k : ℕ) × (slice_get xs k ≡ Some x)
in_place x [] i = absurd i
in_place x (y ∷ ys) (inl e) = (zero, ap Some (sym e))
in_place x (y ∷ ys) (inr i) = let rest = in_place x ys i in (suc rest.0, rest.1)

pub place_in : {A : Type 0} (x : A) (xs : List A) (k : ℕ) → slice_get xs k ≡ Some x → In x xs
place_in x [] k e = cc
place_in x (y ∷ ys) zero e = inl (sym (some_is e))
place_in x (y ∷ ys) (suc k) e = inr (place_in x ys k e)

pub in_map : {A B : Type 0} (f : A → B) (x : A) (xs : List A) → In x xs → In (f x) (map f xs)
in_map f x [] i = absurd i
in_map f x (y ∷ ys) (inl e) = inl (ap f e)
in_map f x (y ∷ ys) (inr i) = inr (in_map f x ys i)

pub from_map : {A B : Type 0} (f : A → B) (y : B) (xs : List A) → In y (map f xs) → (x : A) × In x xs × (y ≡ f x)
from_map f y [] i = absurd i
from_map f y (x ∷ xs) (inl e) = (x, inl refl, e)
from_map f y (x ∷ xs) (inr i) = let rest = from_map f y xs i in (rest.0, inr rest.1, rest.2)

pub in_filter : {A : Type 0} (test : A → Bool) (x : A) (xs : List A) → In x xs → test x ≡ true → In x (filter test xs)
in_filter test x [] i t = absurd i
in_filter test x (y ∷ ys) (inl e) t = subst (λ (b : Bool). In x (cond b (y ∷ filter test ys) (filter test ys))) (sym (ap test (sym e) ∙ t)) (inl e)
in_filter test x (y ∷ ys) (inr i) t = elim (test y) as (λ b. In x (cond b (y ∷ filter test ys) (filter test ys))) [ true ↦ inr (in_filter test x ys i t) | false ↦ in_filter test x ys i t ]

pub from_filter : {A : Type 0} (test : A → Bool) (x : A) (xs : List A) → In x (filter test xs) → In x xs × (test x ≡ true)
from_filter test x [] i = absurd i
from_filter {A} test x (y ∷ ys) i = by (test y) refl (from_filter test x ys) i
  where
    by : (b : Bool) → test y ≡ b → (In x (filter test ys) → In x ys × (test x ≡ true)) → In x (cond b (y ∷ filter test ys) (filter test ys)) → In x (y ∷ ys) × (test x ≡ true)
    by true t rest (inl e) = (inl e, ap test e ∙ t)
    by true t rest (inr i) = let there = rest i in (inr there.0, there.1)
    by false t rest i = let there = rest i in (inr there.0, there.1)

module _ {R : Type 0} (key : R → Name) where
  -- the row of a key stands at its place
  behind_first : (r : R) (rows : List R) (o : Option ℕ) → option_and_then (slice_get (r ∷ rows)) (option_map suc o) ≡ option_and_then (slice_get rows) o
  behind_first r rows None = refl
  behind_first r rows (Some k) = refl

  pub row_at_place : (rows : List R) (q : Name) → row_of key rows q ≡ option_and_then (slice_get rows) (row_with (map key rows) q)
  row_at_place [] q = refl
  row_at_place (r ∷ rows) q = elim (same_name q (key r)) as (λ b. cond b (Some r) (row_of key rows q) ≡ option_and_then (slice_get (r ∷ rows)) (cond b (Some 0) (option_map suc (row_with (map key rows) q)))) [
    | true ↦ refl
    | false ↦ row_at_place rows q ∙ sym (behind_first r rows (row_with (map key rows) q))
  ]

  -- no two rows have one key
  abbrev pub AreKeyed : List R → Type 0
  AreKeyed rows = (i j : ℕ) (a b : R) → slice_get rows i ≡ Some a → slice_get rows j ≡ Some b → key a ≡ key b → i ≡ j

  -- a place that is found has a row
  pub found_there : (rows : List R) (q : Name) (j : ℕ) → row_with (map key rows) q ≡ Some j → (r : R) × (slice_get rows j ≡ Some r)
  found_there [] q j e = cc
  found_there (r ∷ rows) q j e = by (same_name q (key r)) (row_with (map key rows) q) (found_there rows q) j e
    where
      by : (b : Bool) (o : Option ℕ) → ((i : ℕ) → o ≡ Some i → (a : R) × (slice_get rows i ≡ Some a)) → (j : ℕ) → cond b (Some 0) (option_map suc o) ≡ Some j → (a : R) × (slice_get (r ∷ rows) j ≡ Some a)
      by true o rest j e = (r, let zero_is : 0 ≡ j = cc in ap (slice_get (r ∷ rows)) (sym zero_is))
      by false None rest j e = cc
      by false (Some i) rest j e =
          let there = rest i refl in
          let next : suc i ≡ j = cc in
          (there.0, ap (slice_get (r ∷ rows)) (sym next) ∙ there.1)

  -- the first row of a key has it
  pub found_first : (rows : List R) (k : ℕ) (r : R) → slice_get rows k ≡ Some r → (j : ℕ) × (row_with (map key rows) (key r) ≡ Some j) × (a : R) × (slice_get rows j ≡ Some a) × (key r ≡ key a)
  found_first [] k r e = cc
  found_first (x ∷ rows) zero r e =
      let same : same_name (key r) (key x) ≡ true = ap (λ (a : R). same_name (key r) (key a)) (some_is e) ∙ same_itself (key r) in
      (zero, ap (λ b. cond b (Some 0) (option_map suc (row_with (map key rows) (key r)))) same, x, refl, from_same (key r) (key x) same)
  found_first (x ∷ rows) (suc k) r e = elim (cases_Bool (same_name (key r) (key x))) [
    | inl on ↦ (zero, ap (λ b. cond b (Some 0) (option_map suc (row_with (map key rows) (key r)))) on, x, refl, from_same (key r) (key x) on)
    | inr off ↦
        let rest = found_first rows k r e in
        (suc rest.0, ap (λ b. cond b (Some 0) (option_map suc (row_with (map key rows) (key r)))) off ∙ ap (option_map suc) rest.1, rest.2, rest.3, rest.4)
  ]

  pub own_place : (rows : List R) (k : ℕ) (r : R) → AreKeyed rows → slice_get rows k ≡ Some r → row_with (map key rows) (key r) ≡ Some k
  own_place rows k r keyed e = let first = found_first rows k r e in first.1 ∙ ap Some (keyed first.0 k first.2 r first.3 e (sym first.4))

  -- ---- rows in key order are rows of the table, and all of them are there

  in_put : (k : Name) (v : Numbered R) (es : List (Name × Numbered R)) → In (k, v) (put name_cmp k v es)
  in_put k v [] = inl refl
  in_put k v (e ∷ es) = by (name_cmp k e.0) refl (in_put k v es)
    where
      by : (o : Ordering) → name_cmp k e.0 ≡ o → In (k, v) (put name_cmp k v es) → In (k, v) (by_order o ((k, v) ∷ e ∷ es) ((e.0, v) ∷ es) (e ∷ put name_cmp k v es))
      by Less is rest = inl refl
      by Equal is rest = inl (ap (λ (n : Name). (n, v)) (names_exact k e.0 is))
      by Greater is rest = inr rest

  stays_put : (k : Name) (v : Numbered R) (es : List (Name × Numbered R)) (e : Name × Numbered R) → (k ≡ e.0 → ⊥) → In e es → In e (put name_cmp k v es)
  stays_put k v [] e ne i = absurd i
  stays_put k v (x ∷ es) e ne i = by (name_cmp k x.0) refl (stays_put k v es e ne) i
    where
      by : (o : Ordering) → name_cmp k x.0 ≡ o → (In e es → In e (put name_cmp k v es)) → In e (x ∷ es) → In e (by_order o ((k, v) ∷ x ∷ es) ((x.0, v) ∷ es) (x ∷ put name_cmp k v es))
      by Less is rest i = inr i
      by Equal is rest (inl same) = absurd (ne (names_exact k x.0 is ∙ ap (λ (p : Name × Numbered R). p.0) (sym same)))
      by Equal is rest (inr i) = inr i
      by Greater is rest (inl same) = inl same
      by Greater is rest (inr i) = inr (rest i)

  from_put : (k : Name) (v : Numbered R) (es : List (Name × Numbered R)) (e : Name × Numbered R) → In e (put name_cmp k v es) → (e.1 ≡ v) ⊎ In e es
  from_put k v [] e (inl same) = inl (ap (λ (p : Name × Numbered R). p.1) same)
  from_put k v [] e (inr i) = absurd i
  from_put k v (x ∷ es) e i = by (name_cmp k x.0) (from_put k v es e) i
    where
      by : (o : Ordering) → (In e (put name_cmp k v es) → (e.1 ≡ v) ⊎ In e es) → In e (by_order o ((k, v) ∷ x ∷ es) ((x.0, v) ∷ es) (x ∷ put name_cmp k v es)) → (e.1 ≡ v) ⊎ In e (x ∷ es)
      by Less rest (inl same) = inl (ap (λ (p : Name × Numbered R). p.1) same)
      by Less rest (inr i) = inr i
      by Equal rest (inl same) = inl (ap (λ (p : Name × Numbered R). p.1) same)
      by Equal rest (inr i) = inr (inr i)
      by Greater rest (inl same) = inr (inl same)
      by Greater rest (inr i) = elim (rest i) [ inl same ↦ inl same | inr there ↦ inr (inr there) ]

  abbrev pairs : ℕ → List R → List (Name × Numbered R)
  pairs n rows = map (λ (r : Numbered R). (key r.row, r)) (numbered_from n rows)

  abbrev made : ℕ → List R → List (Name × Numbered R)
  made n rows = entries (from_entries {R = name_cmp} (pairs n rows))

  next : (n : ℕ) (r : R) (rows : List R) → made n (r ∷ rows) ≡ put name_cmp (key r) (record { number = n; row = r }) (made (suc n) rows)
  next n r rows = entries-insert names_total (from_entries {R = name_cmp} (pairs (suc n) rows)) (key r) (record { number = n; row = r })

  from_made : (n : ℕ) (rows : List R) (e : Name × Numbered R) → In e (made n rows) → In e.1.row rows
  from_made n [] e i = absurd (subst (In e) (entries-from_entries {X = Numbered R} [] tt) i)
  from_made n (r ∷ rows) e i = elim (from_put (key r) (record { number = n; row = r }) (made (suc n) rows) e (subst (In e) (next n r rows) i)) [
    | inl same ↦ inl (ap (λ (m : Numbered R). m.row) same)
    | inr there ↦ inr (from_made (suc n) rows e there)
  ]

  in_made : (n : ℕ) (rows : List R) (k : ℕ) (r : R) → AreKeyed rows → slice_get rows k ≡ Some r → (m : ℕ) × In (key r, record { number = m; row = r }) (made n rows)
  in_made n [] k r keyed e = cc
  in_made n (x ∷ rows) zero r keyed e = (
    n,
    subst (In (key r, record { number = n; row = r })) (sym (next n x rows))
        (subst (λ (a : R). In (key r, record { number = n; row = r }) (put name_cmp (key a) (record { number = n; row = a }) (made (suc n) rows))) (sym (some_is e)) (in_put (key r) (record { number = n; row = r }) (made (suc n) rows))),
  )
  in_made n (x ∷ rows) (suc k) r keyed e =
      let rest = in_made (suc n) rows k r (λ i j a b p q same. less i j (keyed (suc i) (suc j) a b p q same)) e in
      (rest.0, subst (In (key r, record { number = rest.0; row = r })) (sym (next n x rows)) (stays_put (key x) (record { number = n; row = x }) (made (suc n) rows) (key r, record { number = rest.0; row = r }) (λ same. none (keyed zero (suc k) x r refl e same)) rest.1))
    where
      less : (i j : ℕ) → suc i ≡ suc j → i ≡ j
      less i j e = omega arith

      none : zero ≡ suc k → ⊥
      none e = omega arith

  pub from_order : (rows : List R) (m : Numbered R) → In m (in_key_order key rows) → In m.row rows
  unfolding in_key_order
  from_order rows m i =
      let found = from_map (λ (e : Name × Numbered R). e.1) m (made 1 rows) i in
      subst (λ (x : Numbered R). In x.row rows) (sym found.2) (from_made 1 rows found.0 found.1)

  pub in_order : (rows : List R) (k : ℕ) (r : R) → AreKeyed rows → slice_get rows k ≡ Some r → (m : Numbered R) × In m (in_key_order key rows) × (m.row ≡ r)
  unfolding in_key_order
  in_order rows k r keyed e =
      let found = in_made 1 rows k r keyed e in
      (record { number = found.0; row = r }, in_map (λ (p : Name × Numbered R). p.1) (key r, record { number = found.0; row = r }) (made 1 rows) found.1, refl)
