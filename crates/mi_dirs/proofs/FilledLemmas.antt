-- Tables that are filled in an order in which each row stands behind its parent.
use Rattle.std.proofs.Common.{◌≡◌, ℕ, zero, suc, ◌+◌, ◌≤◌, ◌<◌, eqb, false, List, [], ◌∷◌, length, take, get_or, Option, Some, None, refl, sym, ap, subst, ◌∙◌, arith, inl, inr}
use Rattle.std.specs.Prelude.{slice_get, slice_index, option_map, Contains, IfSome}
use Rattle.std.proofs.Math.ListN.{set}
use Rattle.std.proofs.lemmas.Bool.{cases_Bool, eqb-true}
use Rattle.std.proofs.lemmas.Bool.Decides.{nat_tests}
use Rattle.std.proofs.lemmas.Option.{get_or_from_slice_get}
use Rattle.std.proofs.lemmas.List.{length-take-le, get_or-take, get_or_default}
use Rattle.mi_dirs.specs.Order.{IsOrdered, IsOrder}

-- ---- tables that are filled row by row

-- the table has the value of each row of the order up to this place
pub record Filled {A : Type 0} (value : ℕ → A) (order : List ℕ) (upto : ℕ) (table : List A) : Type 0 where
  pub at : (k : ℕ) → k < upto → slice_get table (slice_index order k) ≡ Some (value (slice_index order k))

pub slice_get-set_same : {A : Type 0} (xs : List A) (i : ℕ) (v : A) → i < length xs → slice_get (set xs i v) i ≡ Some v
slice_get-set_same [] i v lt = absurd (omega arith)
slice_get-set_same (x ∷ xs) zero v lt = refl
slice_get-set_same (x ∷ xs) (suc i) v lt = slice_get-set_same xs i v (omega arith)

pub slice_get-set_other : {A : Type 0} (xs : List A) (i k : ℕ) (v : A) → (k ≡ i → ⊥) → slice_get (set xs i v) k ≡ slice_get xs k
slice_get-set_other [] i k v ne = refl
slice_get-set_other (x ∷ xs) zero zero v ne = absurd (ne refl)
slice_get-set_other (x ∷ xs) zero (suc k) v ne = refl
slice_get-set_other (x ∷ xs) (suc i) zero v ne = refl
slice_get-set_other (x ∷ xs) (suc i) (suc k) v ne = slice_get-set_other xs i k v (λ e. ne (ap suc e))

pub not_eqb : (k n : ℕ) → eqb k n ≡ false → k ≡ n → ⊥
not_eqb k n e is = grind (arith, nat_tests)

below_next : (k n : ℕ) → k < n + 1 → eqb k n ≡ false → k < n
below_next k n lk e = grind (arith, nat_tests)

pub filled_more : {A : Type 0} (value : ℕ → A) (order : List ℕ) (upto row : ℕ) (table new : List A) (v : A) → Filled value order upto table → slice_index order upto ≡ row → row < length table → new ≡ set table row v → v ≡ value row → Filled value order (upto + 1) new
filled_more value order upto row table new v f is lt written right = record {
  at = λ k lk.
      ap (λ (t : List _). slice_get t (slice_index order k)) written
      ∙ elim (cases_Bool (eqb (slice_index order k) row)) [
        | inl e ↦
            let same : slice_index order k ≡ row = eqb-true (slice_index order k) row e in
            ap (slice_get (set table row v)) same ∙ slice_get-set_same table row v lt ∙ ap Some (right ∙ ap value (sym same))
        | inr e ↦
            let other : slice_index order k ≡ row → ⊥ = not_eqb (slice_index order k) row e in
            slice_get-set_other table row (slice_index order k) v other ∙ f.at k (earlier k lk other)
      ];
}
  where
    earlier : (k : ℕ) → k < upto + 1 → (slice_index order k ≡ row → ⊥) → k < upto
    earlier k lk other =
        elim (cases_Bool (eqb k upto)) [
          | inl e ↦ absurd (other (ap (slice_index order) (eqb-true k upto e) ∙ is))
          | inr e ↦ below_next k upto lk e
        ]

-- a row that stands in the order up to this place has its value
pub filled_at : {A : Type 0} (value : ℕ → A) (order : List ℕ) (upto row : ℕ) (table : List A) → Filled value order upto table → Contains (take upto order) row → slice_get table row ≡ Some (value row)
filled_at value order upto row table f c =
    let k = c.0 in
    let lk : k < length (take upto order) = c.1 in
    let taken = length_taken order upto in
    let here : slice_index order k ≡ row = sym (get_or-take upto order k 0 (omega arith)) ∙ get_or_any (take upto order) k row c.1 ∙ c.2 in
    subst (λ (r : ℕ). slice_get table r ≡ Some (value r)) here (f.at k (omega arith))
  where
    get_or_any : (xs : List ℕ) (i d : ℕ) → i < length xs → get_or xs i 0 ≡ get_or xs i d
    get_or_any xs i d lt = get_or_default xs i 0 d lt

    length_taken : (xs : List ℕ) (n : ℕ) → length (take n xs) ≤ n
    length_taken xs zero = omega arith
    length_taken [] (suc n) = omega arith
    length_taken (x ∷ xs) (suc n) = let h = length_taken xs n in omega arith

-- functions that answer alike are the same
pub same_function : {A B : Type 0} (f g : A → B) → ((x : A) → f x ≡ g x) → f ≡ g
same_function f g h = λ i x. h x i

-- ---- in an order in which each row stands behind its parent

-- a row that stands up to a place of the order is a row
placed_below : (parent : ℕ → Option ℕ) (n : ℕ) (order : List ℕ) (i p : ℕ) → IsOrdered parent n order → i ≤ length order → Contains (take i order) p → p < n
placed_below parent n order i p o le c =
    let k = c.0 in
    let short = length-take-le i order le in
    let here : slice_index order k ≡ p = sym (get_or-take i order k 0 (omega arith)) ∙ get_or_default (take i order) k 0 p c.1 ∙ c.2 in
    subst (λ (r : ℕ). r < n) here (o.within k (omega arith))

pub parent_below : (parent : ℕ → Option ℕ) (n : ℕ) (order : List ℕ) (i row : ℕ) → IsOrdered parent n order → i < length order → slice_index order i ≡ row → (o : Option ℕ) → parent row ≡ o → IfSome o (λ p. p < n)
parent_below parent n order i row h lt is None e = tt
parent_below parent n order i row h lt is (Some p) e = placed_below parent n order i p h (omega arith) (h.after i p lt (ap parent is ∙ e))

-- what the table has of its parent
pub above_is : {A : Type 0} (parent : ℕ → Option ℕ) (n : ℕ) (order : List ℕ) (value : ℕ → A) (table : List A) (i row : ℕ) (d : A) → IsOrdered parent n order → Filled value order i table → i < length order → slice_index order i ≡ row
    → (o : Option ℕ) → parent row ≡ o → option_map (λ p. get_or table p d) o ≡ option_map (λ p. value p) o
above_is parent n order value table i row d h f lt is None e = refl
above_is parent n order value table i row d h f lt is (Some p) e =
    ap Some (get_or_from_slice_get table p (value p) d (filled_at value order i p table f (h.after i p lt (ap parent is ∙ e))))

-- the whole table
pub filled_whole : {A : Type 0} (parent : ℕ → Option ℕ) (n : ℕ) (order : List ℕ) (value : ℕ → A) (table : List A) (upto : ℕ) → IsOrder parent n order → Filled value order upto table → length order ≤ upto → (row : ℕ) → row < n → slice_get table row ≡ Some (value row)
filled_whole parent n order value table upto h f le row lt =
    let c = h.whole row lt in
    let here : slice_index order c.0 ≡ row = get_or_default order c.0 0 row c.1 ∙ c.2 in
    subst (λ (r : ℕ). slice_get table r ≡ Some (value r)) here (f.at c.0 (omega arith))
