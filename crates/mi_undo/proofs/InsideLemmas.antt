-- The names inside the area stand together in the order of names.
use Rattle.std.proofs.Common.{◌≡◌, ℕ, true, false, ◌&&◌, ◌==◌, List, [], ◌∷◌, Some, refl, sym, ap, ◌∙◌}
use Rattle.std.proofs.lemmas.Bool.{eqb-true, eq-eqb}
use Rattle.std.proofs.lemmas.Cmp.{nat_cmp_total}
use Rattle.std.specs.FinMap.{nat_cmp-IsAntisymmetric}
use Rattle.std.specs.Ordering.{nat_cmp, is_gt, ordering_then, ordering_reverse}
use Rattle.std.specs.declared.cmp.Ordering.{Ordering}
use Rattle.std.specs.declared.cmp.Ordering.TheVariants.{Less, Equal, Greater}
use Rattle.mi_text.specs.Maps.{name_cmp}
use Rattle.mi_text.specs.Next.{is_behind}
use Rattle.mi_undo.specs.Names.{is_inside}
use Rattle.mi_undo.proofs.NotesOf.{both_true}

-- what a name inside the area is
pub inside_is : (q : List ℕ) → is_inside q ≡ true → (r : List ℕ) × (q ≡ 106 ∷ 47 ∷ r)
inside_is [] inside = absurd (cc)
inside_is (a ∷ []) inside = absurd (cc)
inside_is (a ∷ b ∷ r) inside =
    let parts = both_true (a == 106) (b == 47) inside in
    let first = eqb-true a 106 parts.0 in
    let second = eqb-true b 47 parts.1 in
    (r, λ i. first i ∷ second i ∷ r)

between : (o p r s : Ordering) → is_gt (ordering_then o (ordering_then p r)) ≡ true → is_gt (ordering_then (ordering_reverse o) (ordering_then (ordering_reverse p) s)) ≡ true → (o ≡ Equal) × (p ≡ Equal)
between Less p r s above below = absurd (cc)
between Greater p r s above below = absurd (cc)
between Equal Less r s above below = absurd (cc)
between Equal Greater r s above below = absurd (cc)
between Equal Equal r s above below = (refl, refl)

between_one : (o : Ordering) → is_gt (ordering_then o Less) ≡ true → is_gt (ordering_then (ordering_reverse o) Greater) ≡ true → ⊥
between_one Less above below = absurd (cc)
between_one Equal above below = absurd (cc)
between_one Greater above below = absurd (cc)

turned : (a b : ℕ) → nat_cmp a b ≡ ordering_reverse (nat_cmp b a)
turned a b = nat_cmp_total.antisymm a b

-- no other name stands between two names inside the area
none_between : (a q k : List ℕ) → is_inside k ≡ false → is_gt (name_cmp k (106 ∷ 47 ∷ a)) ≡ true → is_gt (name_cmp (106 ∷ 47 ∷ q) k) ≡ true → ⊥
none_between a q [] out above below = let t : false ≡ true = above in cc
none_between a q (x ∷ []) out above below = between_one (nat_cmp x 106) above (ap (λ o. is_gt (ordering_then o Greater)) (sym (turned 106 x)) ∙ below)
none_between a q (x ∷ y ∷ k) out above below =
    let both = between (nat_cmp x 106) (nat_cmp y 47) (name_cmp k a) (name_cmp q k) above
    (ap (λ o. is_gt (ordering_then o (ordering_then (ordering_reverse (nat_cmp y 47)) (name_cmp q k)))) (sym (turned 106 x)) ∙ ap (λ o. is_gt (ordering_then (nat_cmp 106 x) (ordering_then o (name_cmp q k)))) (sym (turned 47 y)) ∙ below) in
    let first = eq-eqb x 106 (nat_cmp-IsAntisymmetric x 106 both.0) in
    let second = eq-eqb y 47 (nat_cmp-IsAntisymmetric y 47 both.1) in
    let inside : ((x == 106) && (y == 47)) ≡ true = ap (λ b. b && (y == 47)) first ∙ second in
    let clash : true ≡ false = sym inside ∙ out in
    cc

pub past_inside : (a q k : List ℕ) → is_inside a ≡ true → is_inside q ≡ true → is_inside k ≡ false → is_behind (Some a) k ≡ true → is_behind (Some k) q ≡ true → ⊥
past_inside a q k inside_a inside_q out above below =
    let a_is = inside_is a inside_a in
    let q_is = inside_is q inside_q in
    none_between a_is.0 q_is.0 k out (ap (λ (n : List ℕ). is_gt (name_cmp k n)) (sym a_is.1) ∙ above) (ap (λ (n : List ℕ). is_gt (name_cmp n k)) (sym q_is.1) ∙ below)

-- the first of them
pub at_top : (q : List ℕ) → is_inside q ≡ true → is_behind (Some (106 ∷ 47 ∷ [])) q ≡ false → q ≡ 106 ∷ 47 ∷ []
at_top q inside before = let q_is = inside_is q inside in q_is.1 ∙ only q_is.0 (ap (λ (n : List ℕ). is_gt (name_cmp n (106 ∷ 47 ∷ []))) (sym q_is.1) ∙ before)
  where
    only : (r : List ℕ) → is_gt (name_cmp (106 ∷ 47 ∷ r) (106 ∷ 47 ∷ [])) ≡ false → 106 ∷ 47 ∷ r ≡ 106 ∷ 47 ∷ []
    only [] e = refl
    only (x ∷ r) e = let clash : true ≡ false = e in absurd (cc)
