-- A search finds a part exactly where the text contains it.
use Rattle.std.proofs.Common.{◌≡◌, ℕ, zero, suc, ◌+◌, ◌<◌, Bool, true, false, ◌||◌, List, [], ◌∷◌, length, get_or, Option, Some, None, refl, sym, ap, ◌∙◌, arith, inl, inr}
use Rattle.std.specs.Prelude.{nat_eq, is_some}
use Rattle.std.specs.List.{starts_with}
use Rattle.std.proofs.lemmas.Bool.{cases_Bool, eqb-true, eq-eqb}
use Rattle.memchr.specs.Find.{OccursAt, FindsNeedle}
use Rattle.mi_cond.proofs.Basics.{and_true, or_true}
use Rattle.mi_cond.specs.Value.{contains}

-- ---- at one place

begins_at : (text part : List ℕ) → starts_with nat_eq text part ≡ true → OccursAt text part 0
begins_at text [] e = record { fits = omega arith; reads = λ j lt. absurd (omega arith) }
begins_at [] (y ∷ ys) e = absurd cc
begins_at (x ∷ xs) (y ∷ ys) e =
    let both = and_true (nat_eq y x) (starts_with nat_eq xs ys) e in
    let more = begins_at xs ys both.1 in
    record {
      fits = omega (arith, more.fits);
      reads = by more (eqb-true y x both.0);
    }
  where
    by : OccursAt xs ys 0 → y ≡ x → (j : ℕ) → j < length (y ∷ ys) → get_or (x ∷ xs) (0 + j) 0 ≡ get_or (y ∷ ys) j 0
    by more same zero lt = let n : 0 + 0 ≡ 0 = omega arith in ap (λ k. get_or (x ∷ xs) k 0) n ∙ sym same
    by more same (suc j) lt =
        let n : 0 + suc j ≡ suc (0 + j) = omega arith in
        ap (λ k. get_or (x ∷ xs) k 0) n ∙ more.reads j (omega arith)

begins_so : (text part : List ℕ) → OccursAt text part 0 → starts_with nat_eq text part ≡ true
begins_so text [] o = refl
begins_so [] (y ∷ ys) o = let none = o.fits in absurd (omega arith)
begins_so (x ∷ xs) (y ∷ ys) o =
    let first : x ≡ y = ap (λ k. get_or (x ∷ xs) k 0) (zero_sum 0) ∙ o.reads 0 (omega arith) in
    let one : nat_eq y x ≡ true = eq-eqb y x (sym first) in
    rw one (begins_so xs ys (record { fits = omega (arith, o.fits); reads = λ j lt. ap (λ k. get_or (x ∷ xs) k 0) (next j) ∙ o.reads (suc j) (omega arith) }))
  where
    zero_sum : (n : ℕ) → n ≡ 0 + n
    zero_sum n = omega arith

    next : (j : ℕ) → suc (0 + j) ≡ 0 + suc j
    next j = omega arith

-- ---- at some place

further : (b : ℕ) (text part : List ℕ) (k : ℕ) → OccursAt text part k → OccursAt (b ∷ text) part (suc k)
further b text part k o = record { fits = omega (arith, o.fits); reads = λ j lt. ap (λ n. get_or (b ∷ text) n 0) (next j) ∙ o.reads j lt }
  where
    next : (j : ℕ) → suc k + j ≡ suc (k + j)
    next j = omega arith

back : (b : ℕ) (text part : List ℕ) (k : ℕ) → OccursAt (b ∷ text) part (suc k) → OccursAt text part k
back b text part k o = record { fits = omega (arith, o.fits); reads = λ j lt. ap (λ n. get_or (b ∷ text) n 0) (next j) ∙ o.reads j lt }
  where
    next : (j : ℕ) → suc (k + j) ≡ suc k + j
    next j = omega arith

contains_some : (text part : List ℕ) → contains text part ≡ true → (k : ℕ) × OccursAt text part k
contains_some [] [] e = (0, record { fits = omega arith; reads = λ j lt. absurd (omega arith) })
contains_some [] (y ∷ ys) e = absurd cc
contains_some (b ∷ text) part e =
    elim (or_true (starts_with nat_eq (b ∷ text) part) (contains text part) e) [
      | inl here ↦ (0, begins_at (b ∷ text) part here)
      | inr there ↦ let more = contains_some text part there in (suc more.0, further b text part more.0 more.1)
    ]

true_or : (a b : Bool) → b ≡ true → (a || b) ≡ true
true_or true b e = refl
true_or false b e = e

occurs_in : (text part : List ℕ) (k : ℕ) → OccursAt text part k → contains text part ≡ true
occurs_in [] [] k o = refl
occurs_in [] (y ∷ ys) k o = let none = o.fits in absurd (omega arith)
occurs_in (b ∷ text) part zero o = let here : starts_with nat_eq (b ∷ text) part ≡ true = begins_so (b ∷ text) part o in rw here refl
occurs_in (b ∷ text) part (suc k) o = true_or (starts_with nat_eq (b ∷ text) part) (contains text part) (occurs_in text part k (back b text part k o))

-- the law of the search
pub found : (text part : List ℕ) (r : Option ℕ) → FindsNeedle text part 0 r → is_some r ≡ contains text part
found text part None none =
    elim (cases_Bool (contains text part)) [
      | inl is ↦ let some = contains_some text part is in absurd (none some.0 (omega arith) (let fits = some.1.fits in omega arith) some.1)
      | inr is ↦ sym is
    ]
found text part (Some k) some = sym (occurs_in text part k some.1)
