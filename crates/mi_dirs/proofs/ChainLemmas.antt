-- A chain of parents that ends at all ends within as many steps as there are rows, and one more.
use Rattle.std.proofs.Common.{◌≡◌, ℕ, zero, suc, ◌+◌, ◌≤◌, ◌<◌, eqb, Bool, true, false, cond, List, [], ◌∷◌, length, Option, Some, None, refl, sym, ap, zero-add, subst, ◌∙◌, arith, inl, inr, ◌⊎◌}
use Rattle.std.specs.Prelude.{option_map}
use Rattle.std.proofs.lemmas.Bool.{cases_Bool, eqb-true}
use Rattle.std.proofs.lemmas.Bool.Decides.{nat_tests}
use Rattle.mi_dirs.specs.Chains.{along, root_or, ends_in}
use Rattle.mi_dirs.specs.Order.{AreRows}
use Rattle.mi_dirs.specs.Faults.{numbers_from, numbers}

le_one : (b c : Bool) (m n : ℕ) → (b ≡ true → c ≡ true) → m ≤ n → cond b (suc m) m ≤ cond c (suc n) n
le_one true true m n h le = omega arith
le_one true false m n h le = let k : false ≡ true = h refl in absurd cc
le_one false true m n h le = omega arith
le_one false false m n h le = le

one_below : (b : Bool) (m n : ℕ) → m ≤ n → cond b (suc m) m ≤ suc n
one_below true m n le = omega arith
one_below false m n le = omega arith

same_one : (b c : Bool) (m n : ℕ) → (b ≡ true → c ≡ true) → m ≤ n → cond b (suc m) m ≡ cond c (suc n) n → (c ≡ b) × (m ≡ n)
same_one true true m n h le e = (refl, omega arith)
same_one true false m n h le e = let k : false ≡ true = h refl in absurd cc
same_one false true m n h le e = absurd (omega arith)
same_one false false m n h le e = (refl, e)

more_than : (n a b : ℕ) → n ≤ a → a ≤ b → eqb a b ≡ false → suc n ≤ b
more_than n a b le up e = grind (arith, nat_tests)

module _ {K : Type 0} where
  abbrev pub AllOf : (K → Type 0) → List K → Type 0
  AllOf P [] = Unit {0}
  AllOf P (x ∷ xs) = P x × AllOf P xs

  abbrev pub In : K → List K → Type 0
  In x [] = ⊥
  In x (y ∷ ys) = (x ≡ y) ⊎ In x ys

  all_in : (P : K → Type 0) (xs : List K) → AllOf P xs → (x : K) → In x xs → P x
  all_in P [] h x i = absurd i
  all_in P (y ∷ ys) h x (inl e) = subst P (sym e) h.0
  all_in P (y ∷ ys) h x (inr i) = all_in P ys h.1 x i

  all_from : (P : K → Type 0) (xs : List K) → ((x : K) → In x xs → P x) → AllOf P xs
  all_from P [] h = tt
  all_from P (y ∷ ys) h = (h y (inl refl), all_from P ys (λ x i. h x (inr i)))

  abbrev pub counted : (K → Bool) → List K → ℕ
  counted p [] = 0
  counted p (x ∷ xs) = cond (p x) (suc (counted p xs)) (counted p xs)

  counted_le : (p q : K → Bool) (xs : List K) → ((x : K) → p x ≡ true → q x ≡ true) → counted p xs ≤ counted q xs
  counted_le p q [] h = omega arith
  counted_le p q (x ∷ xs) h = le_one (p x) (q x) (counted p xs) (counted q xs) (h x) (counted_le p q xs h)

  counted_below : (p : K → Bool) (xs : List K) → counted p xs ≤ length xs
  counted_below p [] = omega arith
  counted_below p (x ∷ xs) = one_below (p x) (counted p xs) (length xs) (counted_below p xs)

  counted_same : (p q : K → Bool) (xs : List K) → ((x : K) → p x ≡ true → q x ≡ true) → counted p xs ≡ counted q xs → AllOf (λ x. q x ≡ p x) xs
  counted_same p q [] h e = tt
  counted_same p q (x ∷ xs) h e =
      let s = same_one (p x) (q x) (counted p xs) (counted q xs) (h x) (counted_le p q xs h) e in
      (s.0, counted_same p q xs h s.1)

module _ (parent : ℕ → Option ℕ) where
  more_root : (f g : ℕ → Bool) (o : Option ℕ) → ((x : ℕ) → f x ≡ true → g x ≡ true) → root_or f o ≡ true → root_or g o ≡ true
  more_root f g None h e = refl
  more_root f g (Some p) h e = h p e

  pub ends_more : (n : ℕ) (k : ℕ) → ends_in parent n k ≡ true → ends_in parent (suc n) k ≡ true
  ends_more zero k e = absurd cc
  ends_more (suc n) k e = more_root (ends_in parent n) (ends_in parent (suc n)) (parent k) (ends_more n) e

  -- each parent is a row
  abbrev pub Closed : List ℕ → Type 0
  Closed ks = (k p : ℕ) → In k ks → parent k ≡ Some p → In p ks

  abbrev pub Same : ℕ → List ℕ → Type 0
  Same n ks = AllOf (λ k. ends_in parent (suc n) k ≡ ends_in parent n k) ks

  either_parent : (o : Option ℕ) → (o ≡ None) ⊎ ((p : ℕ) × (o ≡ Some p))
  either_parent None = inl refl
  either_parent (Some p) = inr (p, refl)

  stays : (n : ℕ) (ks : List ℕ) → Closed ks → Same n ks → Same (suc n) ks
  stays n ks closed same = all_from (λ k. ends_in parent (suc (suc n)) k ≡ ends_in parent (suc n) k) ks (λ k i.
      elim (either_parent (parent k)) [
        | inl e ↦ ap (root_or (ends_in parent (suc n))) e ∙ sym (ap (root_or (ends_in parent n)) e)
        | inr e ↦ ap (root_or (ends_in parent (suc n))) e.1 ∙ all_in (λ p. ends_in parent (suc n) p ≡ ends_in parent n p) ks same e.0 (closed k e.0 i e.1) ∙ sym (ap (root_or (ends_in parent n)) e.1)
      ])

  grows : (n : ℕ) (ks : List ℕ) → Closed ks → Same n ks ⊎ (n ≤ counted (ends_in parent n) ks)
  grows zero ks closed = inr (omega arith)
  grows (suc n) ks closed =
      elim (grows n ks closed) [
        | inl same ↦ inl (stays n ks closed same)
        | inr le ↦
            elim (cases_Bool (eqb (counted (ends_in parent n) ks) (counted (ends_in parent (suc n)) ks))) [
              | inl e ↦ inl (stays n ks closed (counted_same (ends_in parent n) (ends_in parent (suc n)) ks (ends_more n) (eqb-true _ _ e)))
              | inr e ↦ let up = counted_le (ends_in parent n) (ends_in parent (suc n)) ks (ends_more n) in inr (more_than n (counted (ends_in parent n) ks) (counted (ends_in parent (suc n)) ks) le up e)
            ]
      ]

  settled : (ks : List ℕ) → Closed ks → Same (suc (length ks)) ks
  settled ks closed =
      elim (grows (suc (length ks)) ks closed) [ inl same ↦ same | inr le ↦ absurd (omega (arith, le, counted_below (ends_in parent (suc (length ks))) ks)) ]

  stays_settled : (m : ℕ) (ks : List ℕ) → Closed ks → Same (m + suc (length ks)) ks
  stays_settled zero ks closed = subst (λ (n : ℕ). Same n ks) (sym (zero-add (suc (length ks)))) (settled ks closed)
  stays_settled (suc m) ks closed = let next : suc (m + suc (length ks)) ≡ suc m + suc (length ks) = omega arith in subst (λ (n : ℕ). Same n ks) next (stays (m + suc (length ks)) ks closed (stays_settled m ks closed))

  ends_at_last : (m : ℕ) (ks : List ℕ) → Closed ks → (k : ℕ) → In k ks → ends_in parent (m + suc (length ks)) k ≡ true → ends_in parent (suc (length ks)) k ≡ true
  ends_at_last zero ks closed k i e = subst (λ (n : ℕ). ends_in parent n k ≡ true) (zero-add (suc (length ks))) e
  ends_at_last (suc m) ks closed k i e =
      let next : suc m + suc (length ks) ≡ suc (m + suc (length ks)) = omega arith in
      ends_at_last m ks closed k i (sym (all_in (λ x. ends_in parent (suc (m + suc (length ks))) x ≡ ends_in parent (m + suc (length ks)) x) ks (stays_settled m ks closed) k i) ∙ subst (λ (n : ℕ). ends_in parent n k ≡ true) next e)

  pub ends_later : (m n : ℕ) (k : ℕ) → ends_in parent n k ≡ true → ends_in parent (m + n) k ≡ true
  ends_later zero n k e = subst (λ (x : ℕ). ends_in parent x k ≡ true) (sym (zero-add n)) e
  ends_later (suc m) n k e = let next : suc (m + n) ≡ suc m + n = omega arith in subst (λ (x : ℕ). ends_in parent x k ≡ true) next (ends_more (m + n) k (ends_later m n k e))

  -- a chain that ends at all ends in at most as many steps as there are rows
  pub ends_soon : (ks : List ℕ) → Closed ks → (n : ℕ) (k : ℕ) → In k ks → ends_in parent n k ≡ true → ends_in parent (suc (length ks)) k ≡ true
  ends_soon ks closed n k i e =
      let later : n + suc (length ks) ≡ suc (length ks) + n = omega arith in
      ends_at_last n ks closed k i (subst (λ (x : ℕ). ends_in parent x k ≡ true) (sym later) (ends_later (suc (length ks)) n k e))

-- ---- rows by their numbers

in_numbers : {A : Type 0} (xs : List A) (start row : ℕ) → start ≤ row → row < start + length xs → In row (numbers_from start xs)
in_numbers [] start row le lt = absurd (omega arith)
in_numbers (x ∷ xs) start row le lt =
    elim (cases_Bool (eqb row start)) [
      | inl e ↦ inl (eqb-true row start e)
      | inr e ↦ let next : suc start ≤ row = more_than start start row (omega arith) le (other_way row start e) in inr (in_numbers xs (suc start) row next (omega arith))
    ]
  where
    other_way : (a b : ℕ) → eqb a b ≡ false → eqb b a ≡ false
    other_way a b e = grind (arith, nat_tests)

of_numbers : {A : Type 0} (xs : List A) (start row : ℕ) → In row (numbers_from start xs) → row < start + length xs
of_numbers [] start row i = absurd i
of_numbers (x ∷ xs) start row (inl e) = omega arith
of_numbers (x ∷ xs) start row (inr i) = let h = of_numbers xs (suc start) row i in omega arith

length-numbers : {A : Type 0} (xs : List A) (start : ℕ) → length (numbers_from start xs) ≡ length xs
length-numbers [] start = refl
length-numbers (x ∷ xs) start = ap suc (length-numbers xs (suc start))

-- the chain of a row that ends at all ends within the bound
pub ends_within : {A : Type 0} (parent : ℕ → Option ℕ) (xs : List A) → AreRows parent (length xs) → (n row : ℕ) → row < length xs → ends_in parent n row ≡ true → ends_in parent (suc (length xs)) row ≡ true
ends_within parent xs rows n row lt e =
    let closed : Closed parent (numbers xs) = λ k p i is. in_numbers xs 0 p (omega arith) (let h = rows k p is in omega arith) in
    let soon = ends_soon parent (numbers xs) closed n row (in_numbers xs 0 row (omega arith) (omega arith)) e in
    ap (λ (m : ℕ). ends_in parent (suc m) row) (sym (length-numbers xs 0)) ∙ soon

same_above : {A : Type 0} (test : ℕ → Bool) (f g : ℕ → A) → ((p : ℕ) → test p ≡ true → f p ≡ g p) → (o : Option ℕ) → root_or test o ≡ true → option_map (λ p. f p) o ≡ option_map (λ p. g p) o
same_above test f g h None e = refl
same_above test f g h (Some p) e = ap Some (h p e)

-- what a row has doesn't depend on the bound, where its chain ends within it
along_more : {A : Type 0} (parent : ℕ → Option ℕ) (step : ℕ → Option A → A) (stop : A) (n row : ℕ) → ends_in parent n row ≡ true → along parent step stop (suc n) row ≡ along parent step stop n row
along_more parent step stop zero row e = absurd cc
along_more parent step stop (suc n) row e = ap (step row) (same_above (ends_in parent n) (along parent step stop (suc n)) (along parent step stop n) (λ p h. along_more parent step stop n p h) (parent row) e)

-- the equation of what a row has, where the chains end
pub along_step : {A : Type 0} (parent : ℕ → Option ℕ) (step : ℕ → Option A → A) (stop : A) (n row : ℕ) → ends_in parent n row ≡ true
    → along parent step stop n row ≡ step row (option_map (λ p. along parent step stop n p) (parent row))
along_step parent step stop n row e = sym (along_more parent step stop n row e)
