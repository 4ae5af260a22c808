-- Features by their places, their parents, and the lines from them up.
use Rattle.std.proofs.Common.{◌≡◌, ◌⊎◌, ℕ, zero, suc, ◌+◌, ◌-◌, ◌<◌, ◌≤◌, eqb, Bool, true, false, cond, List, [], ◌∷◌, length, map, Option, Some, None, refl, sym, ap, subst, ◌∙◌, arith, inl, inr, get_or, ◌||◌, ltb}
use Rattle.std.specs.Prelude.{slice_get, slice_index, option_map, option_and_then, All, AllPairs, Contains}
use Rattle.std.specs.List.{list_any}
use Rattle.std.proofs.lemmas.Bool.{cases_Bool, eqb-true}
use Rattle.std.proofs.lemmas.Bool.Decides.{nat_tests}
use borrow.Author.Tests.{ltb-true}
use Rattle.std.specs.Option.{option_flatten}
use Rattle.std.proofs.lemmas.List.{length-map}
use Rattle.std.proofs.lemmas.Map.Keys.{IsDistinct-from_apart}
use Rattle.std.proofs.lemmas.Map.Steps.{length-le_from_distinct_below}
use Rattle.mi_text.specs.Maps.{Name, same_name}
use Rattle.mi_text.proofs.MapLemmas.{from_same, same_itself}
use Rattle.mi_dirs.specs.Chains.{ends_in, root_or}
use Rattle.mi_dirs.specs.Order.{parent_in, IsOrder, IsFirstEndless}
use Rattle.mi_dirs.proofs.ChainLemmas.{ends_later}
use Rattle.mi_schema.specs.declared.typed_rows.FeatureRow.{FeatureRow}
use Rattle.mi_schema.specs.Checks.{row_with}
use Rattle.mi_schema.specs.Laws.{EndsWithin}
use Rattle.mi_schema.specs.RowsOf.{behind}
use Rattle.mi_schema.specs.TableRows.{Rows, row_of, feature_row_of}
use Rattle.mi_model.specs.FeatureLists.{line_within, line_of}
use Rattle.mi_wishes.specs.Chains.{parents_in}
use Rattle.mi_wishes.specs.Lines.{parent_row, line_up}
use Rattle.mi_wishes.proofs.MarkLemmas.{earlier_place, not_eqb, get_any}

-- ---- rows by their keys

-- the row of a key is that at the place of the key
pub row_of-with : {R : Type 0} (key : R → Name) (rows : List R) (q : Name) → row_of key rows q ≡ option_and_then (slice_get rows) (row_with (map key rows) q)
row_of-with key [] q = refl
row_of-with {R} key (r ∷ rows) q =
    elim (same_name q (key r)) as (λ b. cond b (Some r) (row_of key rows q) ≡ option_and_then (slice_get (r ∷ rows)) (cond b (Some 0) (option_map suc (row_with (map key rows) q)))) [
      | true ↦ refl
      | false ↦ row_of-with key rows q ∙ behind_one (row_with (map key rows) q)
    ]
  where
    behind_one : (o : Option ℕ) → option_and_then (slice_get rows) o ≡ option_and_then (slice_get (r ∷ rows)) (option_map suc o)
    behind_one None = refl
    behind_one (Some n) = refl

-- no two rows have one key
abbrev pub HasOwnKeys : {R : Type 0} → (R → Name) → List R → Type 0
HasOwnKeys {R} key rows = (i j : ℕ) (a b : R) → slice_get rows i ≡ Some a → slice_get rows j ≡ Some b → key a ≡ key b → i ≡ j

-- a row is found by its key
pub row_with-own : {R : Type 0} (key : R → Name) (rows : List R) → HasOwnKeys key rows → (k : ℕ) (r : R) → slice_get rows k ≡ Some r → row_with (map key rows) (key r) ≡ Some k
row_with-own {R} key rows own k r at = by rows 0 (λ i x e. e) k r at (λ j a e same. own j k a r e at same)
  where
    not_before : (rows : List R) (k : ℕ) (r x : R) → ((j : ℕ) (a : R) → slice_get (x ∷ rows) j ≡ Some a → key a ≡ key r → j ≡ suc k) → same_name (key r) (key x) ≡ false
    not_before rows k r x only = off (same_name (key r) (key x)) refl
      where
        off : (b : Bool) → same_name (key r) (key x) ≡ b → b ≡ false
        off true e = let z : 0 ≡ suc k = only 0 x refl (sym (from_same (key r) (key x) e)) in absurd (omega (arith, z))
        off false e = refl

    by : (rows : List R) (n : ℕ) → ((i : ℕ) (x : R) → slice_get rows i ≡ Some x → slice_get rows i ≡ Some x) → (k : ℕ) (r : R) → slice_get rows k ≡ Some r → ((j : ℕ) (a : R) → slice_get rows j ≡ Some a → key a ≡ key r → j ≡ k) → row_with (map key rows) (key r) ≡ Some k
    by [] n h k r at only = cc
    by (x ∷ rows) n h zero r at only =
        let same : x ≡ r = cc in
        ap (λ b. cond b (Some 0) (option_map suc (row_with (map key rows) (key r)))) (ap (λ (y : R). same_name (key r) (key y)) same ∙ same_itself (key r))
    by (x ∷ rows) n h (suc k) r at only =
        ap (λ b. cond b (Some 0) (option_map suc (row_with (map key rows) (key r)))) (not_before rows k r x only)
        ∙ ap (option_map suc) (by rows n (λ i y e. e) k r at (λ j a e same. let s : suc j ≡ suc k = only (suc j) a e same in omega (arith, s)))

pub row_of-own : {R : Type 0} (key : R → Name) (rows : List R) → HasOwnKeys key rows → (k : ℕ) (r : R) → slice_get rows k ≡ Some r → row_of key rows (key r) ≡ Some r
row_of-own key rows own k r at = row_of-with key rows (key r) ∙ ap (option_and_then (slice_get rows)) (row_with-own key rows own k r at) ∙ at

pub get-map : {A B : Type 0} (f : A → B) (xs : List A) (k : ℕ) (x : A) → slice_get xs k ≡ Some x → slice_get (map f xs) k ≡ Some (f x)
get-map f [] k x e = cc
get-map f (y ∷ xs) zero x e = let same : y ≡ x = cc in ap (λ z. Some (f z)) same
get-map f (y ∷ xs) (suc k) x e = get-map f xs k x e

pub get-below : {A : Type 0} (xs : List A) (k : ℕ) (x : A) → slice_get xs k ≡ Some x → k < length xs
get-below [] k x e = cc
get-below (y ∷ xs) zero x e = omega arith
get-below (y ∷ xs) (suc k) x e = let lt = get-below xs k x e in omega (arith, lt)

pub get-there : {A : Type 0} (xs : List A) (k : ℕ) → k < length xs → (x : A) × (slice_get xs k ≡ Some x)
get-there [] k lt = absurd (omega arith)
get-there (y ∷ xs) zero lt = (y, refl)
get-there (y ∷ xs) (suc k) lt = get-there xs k (omega arith)

-- ---- parents

abbrev pub up : List FeatureRow → ℕ → Option ℕ
up rows = parent_in (parents_in rows)

abbrev pub own_key : FeatureRow → Name
own_key r = r.feature

abbrev pub keyed : List FeatureRow → FeatureRow → Option ℕ
keyed rows r = option_and_then (row_with (map own_key rows)) r.feature_parent

pub up_is : (rows : List FeatureRow) (k : ℕ) (f : FeatureRow) → slice_get rows k ≡ Some f → up rows k ≡ keyed rows f
up_is rows k f at = flat (slice_get (parents_in rows) k) (keyed rows f) (get-map (keyed rows) rows k f at)
  where
    flat : (o : Option (Option ℕ)) (p : Option ℕ) → o ≡ Some p → option_flatten o ≡ p
    flat None p e = cc
    flat (Some None) p e = cc
    flat (Some (Some q)) p e = cc

module _ (rows : Rows) where
  abbrev features : List FeatureRow
  features = rows.feature

  -- the row of a feature's parent is that at its parent's place
  pub parent_row-up : (k : ℕ) (f : FeatureRow) → slice_get features k ≡ Some f → parent_row rows f ≡ option_and_then (slice_get features) (up features k)
  parent_row-up k f at = by f.feature_parent ∙ sym (ap (option_and_then (slice_get features)) (up_is features k f at))
    where
      by : (o : Option Name) → option_and_then (feature_row_of rows) o ≡ option_and_then (slice_get features) (option_and_then (row_with (map own_key features)) o)
      by None = refl
      by (Some q) = row_of-with own_key features q

  -- ---- lines

  line_none : (m : ℕ) → line_within rows m None ≡ []
  line_none zero = refl
  line_none (suc m) = refl

  -- what ends within so many rows is the same within one more
  pub line_more : (m k : ℕ) → ends_in (up features) m k ≡ true → line_within rows (suc m) (slice_get features k) ≡ line_within rows m (slice_get features k)
  line_more zero k e = cc
  line_more (suc m) k e = by (λ p h. line_more m p h) (slice_get features k) refl
    where
      above : ((p : ℕ) → ends_in (up features) m p ≡ true → line_within rows (suc m) (slice_get features p) ≡ line_within rows m (slice_get features p))
          → (q : Option ℕ) → root_or (ends_in (up features) m) q ≡ true → line_within rows (suc m) (option_and_then (slice_get features) q) ≡ line_within rows m (option_and_then (slice_get features) q)
      above h None e = sym (line_none m)
      above h (Some p) e = h p e

      by : ((p : ℕ) → ends_in (up features) m p ≡ true → line_within rows (suc m) (slice_get features p) ≡ line_within rows m (slice_get features p))
          → (o : Option FeatureRow) → slice_get features k ≡ o → line_within rows (suc (suc m)) o ≡ line_within rows (suc m) o
      by h None at = refl
      by h (Some f) at = ap (λ l. f ∷ l) (ap (line_within rows (suc m)) (parent_row-up k f at) ∙ above h (up features k) e ∙ sym (ap (line_within rows m) (parent_row-up k f at)))

  -- a line is its feature, and the line of its parent
  pub line_step : (k : ℕ) (f : FeatureRow) → slice_get features k ≡ Some f → ends_in (up features) (length features) k ≡ true → line_of rows f ≡ f ∷ line_up rows (parent_row rows f)
  line_step k f at ends = by (length features) refl ends (get-below features k f at)
    where
      upper : (n : ℕ) → length features ≡ suc n → (p : ℕ) → ends_in (up features) n p ≡ true → (o : Option FeatureRow) → slice_get features p ≡ o → line_within rows n o ≡ line_up rows o
      upper n is p ends None there = line_none n
      upper n is p ends (Some g) there =
          ap (line_within rows n) (sym there) ∙ sym (line_more n p ends) ∙ ap (line_within rows (suc n)) there ∙ ap (λ m. line_within rows m (Some g)) (sym is)

      above : (n : ℕ) → length features ≡ suc n → (q : Option ℕ) → root_or (ends_in (up features) n) q ≡ true → line_within rows n (option_and_then (slice_get features) q) ≡ line_up rows (option_and_then (slice_get features) q)
      above n is None e = line_none n
      above n is (Some p) e = upper n is p e (slice_get features p) refl

      by : (n : ℕ) → length features ≡ n → ends_in (up features) n k ≡ true → k < n → line_of rows f ≡ f ∷ line_up rows (parent_row rows f)
      by zero is e lt = absurd (omega arith)
      by (suc n) is e lt =
          ap (λ m. line_within rows m (Some f)) is
          ∙ ap (λ l. f ∷ l) (ap (line_within rows n) (parent_row-up k f at) ∙ above n is (up features k) e ∙ sym (ap (line_up rows) (parent_row-up k f at)))

-- ---- orders end chains

any_at : (xs : List ℕ) (q : ℕ) → list_any (eqb q) xs ≡ true → (k : ℕ) × (k < length xs) × (slice_index xs k ≡ q)
any_at [] q e = cc
any_at (x ∷ xs) q e = elim (cases_Bool (eqb q x)) [
  | inl on ↦ (0, omega arith, sym (eqb-true q x on))
  | inr off ↦ let rest = any_at xs q (sym (ap (λ b. b || list_any (eqb q) xs) off) ∙ e) in (suc rest.0, (let a = rest.1 in omega (arith, a)), rest.2)
]

module _ (parent : ℕ → Option ℕ) (rows : ℕ) (order : List ℕ) (ordered : IsOrder parent rows order) where
  place_ends : (b i : ℕ) → i < b → i < length order → ends_in parent (suc i) (slice_index order i) ≡ true
  place_ends zero i lt below = absurd (omega arith)
  place_ends (suc b) i lt below = by (λ j l h. place_ends b j l h) (parent (slice_index order i)) refl
    where
      later : (i j : ℕ) → suc j ≤ i → (i - suc j) + suc j ≡ i
      later i j h = omega arith

      by : ((j : ℕ) → j < b → j < length order → ends_in parent (suc j) (slice_index order j) ≡ true) → (o : Option ℕ) → parent (slice_index order i) ≡ o → root_or (ends_in parent i) o ≡ true
      by h None is = refl
      by h (Some p) is =
          let at = earlier_place order i p (ordered.ordered.after i p below is) in
          let l = at.1 in
          let up_to : suc at.0 ≤ i = omega (arith, l) in
          let ends : ends_in parent (suc at.0) p ≡ true = ap (ends_in parent (suc at.0)) (sym at.3) ∙ h at.0 (omega (arith, l)) at.2 in
          subst (λ (n : ℕ). ends_in parent n p ≡ true) (later i at.0 up_to) (ends_later parent (i - suc at.0) (suc at.0) p ends)

  order_short : length order ≤ rows
  order_short = length-le_from_distinct_below order rows (IsDistinct-from_apart eqb order apart) within
    where
      apart : (i j d : ℕ) → i < j → j < length order → eqb (get_or order i d) (get_or order j d) ≡ false
      apart i j d lt below = by (eqb (get_or order i d) (get_or order j d)) refl
        where
          by : (b : Bool) → eqb (get_or order i d) (get_or order j d) ≡ b → b ≡ false
          by false e = refl
          by true e =
              let same : slice_index order i ≡ slice_index order j = get_any order i 0 d (omega arith) ∙ eqb-true (get_or order i d) (get_or order j d) e ∙ get_any order j d 0 below in
              let one = ordered.ordered.once i j (omega arith) below same in absurd (omega (arith, one))

      within : (q : ℕ) → list_any (eqb q) order ≡ true → q < rows
      within q e = let at = any_at order q e in subst (λ (n : ℕ). n < rows) at.2 (ordered.ordered.within at.0 at.1)

  pub order_ends : (k : ℕ) → k < rows → ends_in parent rows k ≡ true
  order_ends k lt =
      let c = ordered.whole k lt in
      let short = order_short in
      let l = c.1 in
      let here : slice_index order c.0 ≡ k = get_any order c.0 0 k c.1 ∙ c.2 in
      let ends : ends_in parent (suc c.0) k ≡ true = ap (ends_in parent (suc c.0)) (sym here) ∙ place_ends (suc c.0) c.0 (omega arith) c.1 in
      subst (λ (n : ℕ). ends_in parent n k ≡ true) (later rows c.0 (omega (arith, short, l))) (ends_later parent (rows - suc c.0) (suc c.0) k ends)
    where
      later : (i j : ℕ) → suc j ≤ i → (i - suc j) + suc j ≡ i
      later i j h = omega arith

-- the same of the features' parents
pub order_rows : (rows : List FeatureRow) (parents : List (Option ℕ)) (order : List ℕ) → parents ≡ parents_in rows → IsOrder (parent_in parents) (length parents) order → (k : ℕ) → k < length rows → ends_in (up rows) (length rows) k ≡ true
order_rows rows parents order is ordered k lt =
    let same : length parents ≡ length rows = ap length is ∙ length-map rows (keyed rows) in
    sym (ap (λ (ps : List (Option ℕ)). ends_in (parent_in ps) (length rows) k) is) ∙ sym (ap (λ n. ends_in (parent_in parents) n k) same)
    ∙ order_ends (parent_in parents) (length parents) order ordered k (omega (arith, same, lt))

-- ---- chains of a lawful package

pub entry_at : {R : Type 0} (entries : List (Name × R)) (i : ℕ) (a : R) → slice_get (behind entries) i ≡ Some a → (i < length entries) × ((d : Name × R) → (get_or entries i d).1 ≡ a)
entry_at [] i a e = cc
entry_at (x ∷ es) zero a e = (omega arith, λ d. let same : x.1 ≡ a = cc in same)
entry_at (x ∷ es) (suc i) a e = let rest = entry_at es i a e in ((let l = rest.0 in omega (arith, l)), rest.1)

pub own_keys : {R : Type 0} (key : R → Name) (entries : List (Name × R)) → All (λ e. e.0 ≡ key e.1) entries → AllPairs (λ a b. a.0 ≡ b.0 → ⊥) entries → HasOwnKeys key (behind entries)
own_keys {R} key entries own apart i j a b at bt same = by (cases_Bool (eqb i j))
  where
    key_at : (i : ℕ) (a : R) → slice_get (behind entries) i ≡ Some a → (d : Name × R) → (get_or entries i d).0 ≡ key a
    key_at i a at d = let e = entry_at entries i a at in own i d e.0 ∙ ap key (e.1 d)

    d : Name × R
    d = (key a, a)

    two : (get_or entries i d).0 ≡ (get_or entries j d).0
    two = key_at i a at d ∙ same ∙ sym (key_at j b bt d)

    above : (i j : ℕ) → (i ≡ j → ⊥) → ltb i j ≡ false → j < i
    above i j ne not_below = grind (arith, nat_tests, ne)

    differ : (eqb i j ≡ false) → i ≡ j
    differ off =
        let li = (entry_at entries i a at).0 in
        let lj = (entry_at entries j b bt).0 in
        let ne = not_eqb i j off in
        elim (cases_Bool (ltb i j)) [
          | inl on ↦ absurd (apart i j d (ltb-true i j on) lj two)
          | inr over ↦ let later : j < i = above i j ne over in absurd (apart j i d later li (sym two))
        ]

    by : (eqb i j ≡ true) ⊎ (eqb i j ≡ false) → i ≡ j
    by (inl on) = eqb-true i j on
    by (inr off) = differ off

-- an entry that is there stands at a place
pub contained_at : {R : Type 0} (key : R → Name) (entries : List (Name × R)) (q : Name) (r : R) → All (λ e. e.0 ≡ key e.1) entries → Contains entries (q, r) → (j : ℕ) × (slice_get (behind entries) j ≡ Some r) × (q ≡ key r)
contained_at {R} key entries q r own c = (c.0, at entries c.0 c.1 c.2, keyed_as)
  where
    at : (es : List (Name × R)) (j : ℕ) → j < length es → get_or es j (q, r) ≡ (q, r) → slice_get (behind es) j ≡ Some r
    at [] j lt e = absurd (omega arith)
    at (x ∷ es) zero lt e = ap (λ (p : Name × R). Some p.1) e
    at (x ∷ es) (suc j) lt e = at es j (omega arith) e

    keyed_as : q ≡ key r
    keyed_as = ap (λ (p : Name × R). p.0) (sym c.2) ∙ own c.0 (q, r) c.1 ∙ ap (λ (p : Name × R). key p.1) c.2

module _ (entries : List (Name × FeatureRow)) (own : All (λ e. e.0 ≡ own_key e.1) entries) (apart : HasOwnKeys own_key (behind entries)) where
  abbrev all : List FeatureRow
  all = behind entries

  no_parent : (k m : ℕ) (f : FeatureRow) → slice_get all k ≡ Some f → f.feature_parent ≡ None → ends_in (up all) (suc m) k ≡ true
  no_parent k m f at none = ap (root_or (ends_in (up all) m)) (up_is all k f at ∙ ap (option_and_then (row_with (map own_key all))) none)

  pub within_ends : (m k : ℕ) (f : FeatureRow) → slice_get all k ≡ Some f → EndsWithin (λ (r : FeatureRow). r.feature_parent) entries m f → ends_in (up all) (suc m) k ≡ true
  within_ends zero k f at none = no_parent k 0 f at none
  within_ends (suc m) k f at (inl none) = no_parent k (suc m) f at none
  within_ends (suc m) k f at (inr s) =
      let c = contained_at own_key entries s.0 s.1 own s.3 in
      let is : up all k ≡ Some c.0 =
      up_is all k f at ∙ ap (option_and_then (row_with (map own_key all))) s.2 ∙ ap (row_with (map own_key all)) c.2 ∙ row_with-own own_key all apart c.0 s.1 c.1 in
      ap (root_or (ends_in (up all) (suc m))) is ∙ within_ends m c.0 s.1 c.1 s.4

  -- so no chain is endless
  pub no_cycle : (ends : All (λ e. EndsWithin (λ (r : FeatureRow). r.feature_parent) entries (length entries) e.1) entries) (ps : List (Option ℕ)) → ps ≡ parents_in all → (row : ℕ) → IsFirstEndless (parent_in ps) (length ps) row → ⊥
  no_cycle ends ps is row endless =
      let same : length ps ≡ length entries = ap length is ∙ length-map all (keyed all) ∙ length-map entries (λ e. e.1) in
      let below : row < length all = let lt = endless.is_row in let l = length-map entries (λ (e : Name × FeatureRow). e.1) in omega (arith, same, lt, l) in
      let f = get-there all row below in
      let at = entry_at entries row f.0 f.1 in
      let within : EndsWithin (λ (r : FeatureRow). r.feature_parent) entries (length entries) f.0 = subst (λ (r : FeatureRow). EndsWithin (λ (r : FeatureRow). r.feature_parent) entries (length entries) r) (at.1 (f.0.feature, f.0)) (ends row (f.0.feature, f.0) at.0) in
      let on : ends_in (up all) (suc (length entries)) row ≡ true = within_ends (length entries) row f.0 f.1 within in
      let off : ends_in (up all) (suc (length entries)) row ≡ false = ap (λ (l : List (Option ℕ)). ends_in (parent_in l) (suc (length entries)) row) (sym is) ∙ ap (λ n. ends_in (parent_in ps) (suc n) row) (sym same) ∙ endless.endless in
      let wrong : true ≡ false = sym on ∙ off in cc
