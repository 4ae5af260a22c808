-- What coming rows by themselves ask for, noted at their places.
use Rattle.std.proofs.Common.{◌≡◌, ℕ, zero, suc, ◌<◌, eqb, Bool, false, List, [], ◌∷◌, map, length, Option, Some, None, refl, sym, ap, ◌∙◌, arith, inl, inr, ◌⊎◌}
use Rattle.std.specs.Prelude.{slice_get}
use Rattle.std.proofs.Math.ListN.{set, length-set}
use Rattle.std.proofs.lemmas.Bool.{cases_Bool, eqb-true}
use Rattle.std.proofs.lemmas.Bool.Decides.{nat_tests}
use Rattle.mi_installs.specs.Leads.{noted, all_noted}
use Rattle.mi_installs.proofs.PlaceLemmas.{In}

set_here : {A : Type 0} (xs : List A) (i : ℕ) (v : A) → i < length xs → slice_get (set xs i v) i ≡ Some v
set_here [] i v lt = absurd (omega arith)
set_here (x ∷ xs) zero v lt = refl
set_here (x ∷ xs) (suc i) v lt = set_here xs i v (omega arith)

set_there : {A : Type 0} (xs : List A) (i k : ℕ) (v : A) → (k ≡ i → ⊥) → slice_get (set xs i v) k ≡ slice_get xs k
set_there [] i k v ne = refl
set_there (x ∷ xs) zero zero v ne = absurd (ne refl)
set_there (x ∷ xs) zero (suc k) v ne = refl
set_there (x ∷ xs) (suc i) zero v ne = refl
set_there (x ∷ xs) (suc i) (suc k) v ne = set_there xs i k v (λ e. ne (ap suc e))

unequal : (k n : ℕ) → eqb k n ≡ false → k ≡ n → ⊥
unequal k n e is = grind (arith, nat_tests)

some_place : (a b : ℕ) → Some a ≡ Some b → a ≡ b
some_place a b e = cc

pub length-noted : (asked : List (Option Bool)) (place : Option ℕ) (called : Bool) → length (noted asked place called) ≡ length asked
length-noted asked None called = refl
length-noted asked (Some k) called = length-set asked k (Some called)

pub length-all_noted : {P : Type 0} (place : P → Option ℕ) (asked : List (Option Bool)) (rows : List P) (called : List Bool) → length (all_noted place asked rows called) ≡ length asked
length-all_noted place asked [] called = refl
length-all_noted place asked (p ∷ rows) [] = refl
length-all_noted place asked (p ∷ rows) (c ∷ called) = length-all_noted place (noted asked (place p) c) rows called ∙ length-noted asked (place p) c

-- what is noted at a place, or what stood there
pub noted_at : (asked : List (Option Bool)) (place : Option ℕ) (called : Bool) (k : ℕ) → k < length asked
    → ((place ≡ Some k) × (slice_get (noted asked place called) k ≡ Some (Some called))) ⊎ ((place ≡ Some k → ⊥) × (slice_get (noted asked place called) k ≡ slice_get asked k))
noted_at asked None called k lt = inr (λ e. cc, refl)
noted_at asked (Some j) called k lt = elim (cases_Bool (eqb k j)) [
  | inl e ↦
      let same : k ≡ j = eqb-true k j e in
      inl (ap Some (sym same), ap (slice_get (set asked j (Some called))) same ∙ set_here asked j (Some called) (omega (arith, lt, same)))
  | inr e ↦
      let other : k ≡ j → ⊥ = unequal k j e in
      inr (λ same. other (sym (some_place j k same)), set_there asked j k (Some called) other)
]

module _ {P : Type 0} (place : P → Option ℕ) (says : P → Bool) (value : Bool) (k : ℕ) where
  -- each row of this place asks for this
  abbrev pub Agree : List P → Type 0
  Agree rows = (p : P) → In p rows → place p ≡ Some k → says p ≡ value

  -- a place that stands so stays so
  pub stays_noted : (rows : List P) (asked : List (Option Bool)) → k < length asked → Agree rows → slice_get asked k ≡ Some (Some value) → slice_get (all_noted place asked rows (map says rows)) k ≡ Some (Some value)
  stays_noted [] asked lt agree e = e
  stays_noted (p ∷ rows) asked lt agree e =
      let long : k < length (noted asked (place p) (says p)) = omega (arith, lt, length-noted asked (place p) (says p)) in
      stays_noted rows (noted asked (place p) (says p)) long (λ q i. agree q (inr i)) (elim (noted_at asked (place p) (says p) k lt) [
        | inl here ↦ here.1 ∙ ap (λ (b : Bool). Some (Some b)) (agree p (inl refl) here.0)
        | inr there ↦ there.1 ∙ e
      ])

  -- a row of this place was noted
  pub noted_there : (rows : List P) (asked : List (Option Bool)) → k < length asked → Agree rows → (p : P) → In p rows → place p ≡ Some k → slice_get (all_noted place asked rows (map says rows)) k ≡ Some (Some value)
  noted_there [] asked lt agree p i is = absurd i
  noted_there (q ∷ rows) asked lt agree p (inr i) is =
      let long : k < length (noted asked (place q) (says q)) = omega (arith, lt, length-noted asked (place q) (says q)) in
      noted_there rows (noted asked (place q) (says q)) long (λ x j. agree x (inr j)) p i is
  noted_there (q ∷ rows) asked lt agree p (inl e) is =
      let long : k < length (noted asked (place q) (says q)) = omega (arith, lt, length-noted asked (place q) (says q)) in
      let at : place q ≡ Some k = ap place (sym e) ∙ is in
      stays_noted rows (noted asked (place q) (says q)) long (λ x j. agree x (inr j)) (elim (noted_at asked (place q) (says q) k lt) [
        | inl here ↦ here.1 ∙ ap (λ (b : Bool). Some (Some b)) (agree q (inl refl) at)
        | inr there ↦ absurd (there.0 at)
      ])

  -- no row of this place was
  pub none_noted : (rows : List P) (asked : List (Option Bool)) → k < length asked → ((p : P) → In p rows → place p ≡ Some k → ⊥) → slice_get (all_noted place asked rows (map says rows)) k ≡ slice_get asked k
  none_noted [] asked lt none = refl
  none_noted (q ∷ rows) asked lt none =
      let long : k < length (noted asked (place q) (says q)) = omega (arith, lt, length-noted asked (place q) (says q)) in
      none_noted rows (noted asked (place q) (says q)) long (λ x j. none x (inr j)) ∙ elim (noted_at asked (place q) (says q) k lt) [
        | inl here ↦ absurd (none q (inl refl) here.0)
        | inr there ↦ there.1
      ]
