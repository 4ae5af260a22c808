-- Names that rise and have a greatest length come to an end.
use Rattle.std.proofs.Common.{◌≡◌, ℕ, zero, suc, ◌+◌, ◌-◌, ◌*◌, ◌<◌, ◌≤◌, true, false, cond, ltb, eqb, ◌⊎◌, inl, inr, ⊎_elim, List, [], ◌∷◌, length, Option, Some, None, refl, subst, arith}
use Rattle.std.proofs.Math.Nat.{mul-le-mul_left}
use Rattle.std.proofs.lemmas.Bool.{ltb-true}
use Rattle.std.specs.FinMap.{nat_cmp-IsAntisymmetric}
use Rattle.std.specs.Prelude.{IfSome}
use Rattle.std.specs.declared.cmp.Ordering.{Ordering}
use Rattle.std.specs.declared.cmp.Ordering.TheVariants.{Less, Equal, Greater}
use Rattle.std.specs.Ordering.{nat_cmp, ordering_then}
use Rattle.mi_text.proofs.ByteLemmas.{both}
use Rattle.mi_text.specs.Bytes.{AreBytes}
use Rattle.mi_text.specs.Fold.{IsNameLength}
use Rattle.mi_text.specs.Maps.{Name, name_cmp}
use Rattle.mi_volume.specs.Maps.{IsAbove}

-- what a byte weighs that has so many places behind it
unfoldable pub weight : ℕ → ℕ
weight zero = 1
weight (suc n) = 257 * weight n

-- the first so many bytes as one number
unfoldable pub rank : ℕ → List ℕ → ℕ
rank zero q = 0
rank (suc n) [] = 0
rank (suc n) (b ∷ bs) = weight n * (b + 1) + rank n bs

positive : (n : ℕ) → 0 < weight n
unfolding weight
positive zero = omega arith
positive (suc n) = omega (arith, positive n)

abbrev head_below : (b : ℕ) (bs : List ℕ) → AreBytes (b ∷ bs) → b < 256
head_below b bs are = ltb-true b 256 (both _ _ are).0

rank_below : (n : ℕ) (q : List ℕ) → AreBytes q → rank n q < weight n
unfolding rank weight
rank_below zero q are = omega arith
rank_below (suc n) [] are = omega (arith, positive n)
rank_below (suc n) (b ∷ bs) are =
    let small : b + 1 ≤ 256 = omega (arith, head_below b bs are) in
    omega (arith, rank_below n bs (both _ _ are).1, mul-le-mul_left (weight n) small)

pub less_is : (x y : ℕ) → nat_cmp x y ≡ Less → x < y
less_is x y is = elim (ltb x y) as (λ b. ltb x y ≡ b → cond b Less (cond (eqb x y) Equal Greater) ≡ Less → x < y) [
  | true ↦ λ b h. ltb-true x y b
  | false ↦ λ b h. elim (eqb x y) as (λ t. cond t Equal Greater ≡ Less → x < y) [ true ↦ λ i. absurd cc | false ↦ λ i. absurd cc ] h
] refl is

pub first_or_rest : (o r : Ordering) → ordering_then o r ≡ Less → (o ≡ Less) ⊎ ((o ≡ Equal) × (r ≡ Less))
first_or_rest Less r is = inl refl
first_or_rest Equal r is = inr (refl, is)
first_or_rest Greater r is = absurd cc

-- of two names the lesser has the lesser rank
rank_less : (n : ℕ) (a b : List ℕ) → AreBytes a → AreBytes b → length a ≤ n → length b ≤ n → name_cmp a b ≡ Less → rank n a < rank n b
unfolding rank
rank_less n [] [] are_a are_b short_a short_b less = absurd cc
rank_less zero [] (y ∷ ys) are_a are_b short_a short_b less = absurd (omega arith)
rank_less (suc n) [] (y ∷ ys) are_a are_b short_a short_b less =
    let one : 1 ≤ y + 1 = omega arith in
    omega (arith, positive n, mul-le-mul_left (weight n) one)
rank_less n (x ∷ xs) [] are_a are_b short_a short_b less = absurd cc
rank_less zero (x ∷ xs) (y ∷ ys) are_a are_b short_a short_b less = absurd (omega arith)
rank_less (suc n) (x ∷ xs) (y ∷ ys) are_a are_b short_a short_b less = ⊎_elim
    (λ first. let up : x + 1 + 1 ≤ y + 1 = omega (arith, less_is x y first) in
    omega (arith, rank_below n xs (both _ _ are_a).1, mul-le-mul_left (weight n) up))
    (λ rest. let same : x ≡ y = nat_cmp-IsAntisymmetric x y rest.0 in
    let less_behind = rank_less n xs ys (both _ _ are_a).1 (both _ _ are_b).1 (omega arith) (omega arith) rest.1 in
    subst (λ (k : ℕ). weight n * (x + 1) + rank n xs < weight n * (k + 1) + rank n ys) same (omega (arith, less_behind)))
    (first_or_rest (nat_cmp x y) (name_cmp xs ys) less)

-- how many names may come behind the last one
unfoldable pub left : Option Name → ℕ
left None = weight 1024 + 1
left (Some a) = weight 1024 - rank 1024 a

-- each name that comes behind leaves fewer
pub falls : (after : Option Name) (k : Name) → IfSome after (λ a. IsNameLength a × AreBytes a) → IsNameLength k → AreBytes k → IsAbove after k → left (Some k) < left after
unfolding left
falls None k named short are above = omega arith
falls (Some a) k named short are above =
    omega (arith, rank_less 1024 a k named.1 are (named.0).1 short.1 above, rank_below 1024 k are)
