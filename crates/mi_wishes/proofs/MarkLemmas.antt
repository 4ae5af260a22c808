-- Marks that rise to parents.
use Rattle.std.proofs.Common.{◌≡◌, ℕ, zero, suc, ◌+◌, ◌<◌, ◌≤◌, eqb, Bool, true, false, cond, List, [], ◌∷◌, length, take, Option, Some, None, refl, sym, ap, subst, ◌∙◌, arith, inl, inr, get_or, set}
use Rattle.std.specs.Prelude.{slice_get, slice_index, option_and_then, unwrap_or, Contains}
use Rattle.std.proofs.Math.ListN.{length-set}
use Rattle.std.proofs.lemmas.Bool.{cases_Bool, eqb-true}
use Rattle.std.proofs.lemmas.Bool.Decides.{nat_tests}
use Rattle.mi_dirs.specs.Order.{parent_in, AreRows, IsOrder}
use Rattle.mi_wishes.specs.Marks.{is_marked, with_mark, with_parent, climbed, IsMarkedUp}

pub get-set_same : {A : Type 0} (xs : List A) (i : ℕ) (v : A) → i < length xs → slice_get (set xs i v) i ≡ Some v
get-set_same [] i v lt = absurd (omega arith)
get-set_same (x ∷ xs) zero v lt = refl
get-set_same (x ∷ xs) (suc i) v lt = get-set_same xs i v (omega arith)

pub get-set_other : {A : Type 0} (xs : List A) (i k : ℕ) (v : A) → (k ≡ i → ⊥) → slice_get (set xs i v) k ≡ slice_get xs k
get-set_other [] i k v ne = refl
get-set_other (x ∷ xs) zero zero v ne = absurd (ne refl)
get-set_other (x ∷ xs) zero (suc k) v ne = refl
get-set_other (x ∷ xs) (suc i) zero v ne = refl
get-set_other (x ∷ xs) (suc i) (suc k) v ne = get-set_other xs i k v (λ e. ne (ap suc e))

pub not_eqb : (a b : ℕ) → eqb a b ≡ false → a ≡ b → ⊥
not_eqb a b off e = let on : eqb a b ≡ true = grind (arith, nat_tests, e) in let no : true ≡ false = sym on ∙ off in absurd cc

-- what a place of a list has, in a list that contains it
pub get_any : (xs : List ℕ) (n : ℕ) (d e : ℕ) → n < length xs → get_or xs n d ≡ get_or xs n e
get_any [] n d e lt = absurd (omega arith)
get_any (x ∷ xs) zero d e lt = refl
get_any (x ∷ xs) (suc n) d e lt = get_any xs n d e (omega arith)

-- a member of the front stands at an earlier place
pub earlier_place : (xs : List ℕ) (i p : ℕ) → Contains (take i xs) p → (k : ℕ) × (k < i) × (k < length xs) × (slice_index xs k ≡ p)
earlier_place xs i p c = place xs i c.0 p c.1 c.2
  where
    place : (xs : List ℕ) (i k p : ℕ) → k < length (take i xs) → get_or (take i xs) k p ≡ p → (k : ℕ) × (k < i) × (k < length xs) × (slice_index xs k ≡ p)
    place xs zero k p lt is = absurd (omega arith)
    place [] (suc i) k p lt is = absurd (omega arith)
    place (x ∷ xs) (suc i) zero p lt is = (0, omega arith, omega arith, is)
    place (x ∷ xs) (suc i) (suc k) p lt is =
        let rest = place xs i k p (omega arith) is in
        (suc rest.0, (let a = rest.1 in omega (arith, a)), (let a = rest.2 in omega (arith, a)), rest.3)

-- the parent of a row as its place has it
pub parent_is : (parents : List (Option ℕ)) (row : ℕ) (d o : Option ℕ) → row < length parents → get_or parents row d ≡ o → parent_in parents row ≡ o
parent_is [] row d o lt e = absurd (omega arith)
parent_is (p ∷ parents) zero d o lt e = by p o e
  where
    by : (p o : Option ℕ) → p ≡ o → parent_in (p ∷ []) 0 ≡ o
    by None o e = e
    by (Some q) o e = e
parent_is (p ∷ parents) (suc row) d o lt e = parent_is parents row d o (omega arith) e

pub mark_is : (marks : List Bool) (row : ℕ) (d b : Bool) → row < length marks → get_or marks row d ≡ b → is_marked marks row ≡ b
mark_is [] row d b lt e = absurd (omega arith)
mark_is (m ∷ marks) zero d b lt e = e
mark_is (m ∷ marks) (suc row) d b lt e = mark_is marks row d b (omega arith) e

pub with_parent_is : (parents : List (Option ℕ)) (marks : List Bool) (row : ℕ) (o : Option ℕ) → row < length marks → row < length parents → get_or marks row false ≡ true → get_or parents row None ≡ o
    → with_parent (parent_in parents) marks row ≡ with_mark o marks
with_parent_is parents marks row o lt below on is =
    ap (λ b. cond b (with_mark (parent_in parents row) marks) marks) (mark_is marks row false true lt on) ∙ ap (λ p. with_mark p marks) (parent_is parents row None o below is)

-- ---- one mark

mark-set : (marks : List Bool) (p row : ℕ) → p < length marks → is_marked (set marks p true) row ≡ cond (eqb row p) true (is_marked marks row)
mark-set marks p row lt = elim (cases_Bool (eqb row p)) [
  | inl on ↦
      let same : row ≡ p = eqb-true row p on in
      ap (λ k. unwrap_or (slice_get (set marks p true) k) false) same ∙ ap (λ o. unwrap_or o false) (get-set_same marks p true lt) ∙ sym (ap (λ b. cond b true (is_marked marks row)) on)
  | inr off ↦ ap (λ o. unwrap_or o false) (get-set_other marks p row true (not_eqb row p off)) ∙ sym (ap (λ b. cond b true (is_marked marks row)) off)
]

module _ (parent : ℕ → Option ℕ) where
  pub climbs_more : (n row p q : ℕ) → climbed parent n row ≡ Some p → parent p ≡ Some q → climbed parent (suc n) row ≡ Some q
  climbs_more zero row p q at up = let same : row ≡ p = cc in ap (λ k. option_and_then (climbed parent 0) (parent k)) same ∙ ap (option_and_then (climbed parent 0)) up
  climbs_more (suc n) row p q at up = by (λ r e. climbs_more n r p q e up) (parent row) at
    where
      by : ((r : ℕ) → climbed parent n r ≡ Some p → climbed parent (suc n) r ≡ Some q) → (o : Option ℕ) → option_and_then (climbed parent n) o ≡ Some p → option_and_then (climbed parent (suc n)) o ≡ Some q
      by h None at = cc
      by h (Some r) at = h r at

  module _ (rows : ℕ) (order : List ℕ) (old : List Bool) where
    -- the marks behind this place of the order have risen
    pub record IsRisen (left : ℕ) (marks : List Bool) : Type 0 where
      pub size : length marks ≡ rows
      pub kept : (row : ℕ) → is_marked old row ≡ true → is_marked marks row ≡ true
      pub up : (k p : ℕ) → left ≤ k → k < length order → is_marked marks (slice_index order k) ≡ true → parent (slice_index order k) ≡ Some p → is_marked marks p ≡ true
      pub only : (row : ℕ) → is_marked marks row ≡ true → (below : ℕ) × (n : ℕ) × (is_marked old below ≡ true) × (climbed parent n below ≡ Some row)

  module _ (rows : ℕ) (order : List ℕ) (old : List Bool) (ordered : IsOrder parent rows order) (are : AreRows parent rows) where
    pub risen_start : (left : ℕ) → length old ≡ rows → length order ≤ left → IsRisen rows order old left old
    risen_start left long all = record { size = long; kept = λ row e. e; up = λ k p le lt e is. absurd (omega arith); only = λ row e. (row, 0, e, refl) }

    -- the row's mark has nowhere to rise
    unmoved : (left : ℕ) (marks : List Bool) → left < length order → IsRisen rows order old (left + 1) marks → ((p : ℕ) → is_marked marks (slice_index order left) ≡ true → parent (slice_index order left) ≡ Some p → is_marked marks p ≡ true) → IsRisen rows order old left marks
    unmoved left marks lt h here = record {
      size = h.size;
      kept = h.kept;
      only = h.only;
      up = λ k p le below e is. elim (cases_Bool (eqb k left)) [
        | inl on ↦ let same : k ≡ left = eqb-true k left on in
            here p (ap (λ n. is_marked marks (slice_index order n)) (sym same) ∙ e) (ap (λ n. parent (slice_index order n)) (sym same) ∙ is)
        | inr off ↦ let later : left + 1 ≤ k = let ne = not_eqb k left off in omega (arith, ne) in h.up k p later below e is
      ];
    }

    raised : (left q : ℕ) (marks : List Bool) → left < length order → IsRisen rows order old (left + 1) marks → is_marked marks (slice_index order left) ≡ true → parent (slice_index order left) ≡ Some q → IsRisen rows order old left (set marks q true)
    raised left q marks lt h on is =
        let q_is : q < length marks = let b = are (slice_index order left) q is in let s = h.size in omega (arith, b, s) in
        let at = earlier_place order left q (ordered.ordered.after left q lt is) in
        record {
          size = length-set marks q true ∙ h.size;
          kept = λ row e. more q marks row q_is (h.kept row e);
          up = λ k p le below e up. elim (cases_Bool (eqb (slice_index order k) q)) [
            | inl same ↦
                let e1 : slice_index order k ≡ slice_index order at.0 = eqb-true (slice_index order k) q same ∙ sym at.3 in
                let e2 : k ≡ at.0 = ordered.ordered.once k at.0 below at.2 e1 in
                let l = at.1 in absurd (omega (arith, e2, l))
            | inr other ↦
                let was : is_marked marks (slice_index order k) ≡ true = sym (mark-set marks q (slice_index order k) q_is ∙ ap (λ b. cond b true (is_marked marks (slice_index order k))) other) ∙ e in
                elim (cases_Bool (eqb k left)) [
                  | inl here ↦
                      let same : k ≡ left = eqb-true k left here in
                      let two : Some p ≡ Some q = sym up ∙ ap (λ n. parent (slice_index order n)) same ∙ is in
                      let p_is : p ≡ q = cc in
                      ap (λ n. is_marked (set marks q true) n) p_is ∙ marked_there marks q q_is
                  | inr off ↦ let later : left + 1 ≤ k = let ne = not_eqb k left off in omega (arith, ne) in more q marks p q_is (h.up k p later below was up)
                ]
          ];
          only = λ row e. elim (cases_Bool (eqb row q)) [
            | inl same ↦
                let from = h.only (slice_index order left) on in
                (from.0, suc from.1, from.2, climbs_more from.1 from.0 (slice_index order left) row from.3 (is ∙ ap Some (sym (eqb-true row q same))))
            | inr other ↦ h.only row (sym (mark-set marks q row q_is ∙ ap (λ b. cond b true (is_marked marks row)) other) ∙ e)
          ];
        }
      where
        marked_there : (marks : List Bool) (q : ℕ) → q < length marks → is_marked (set marks q true) q ≡ true
        marked_there marks q lt = ap (λ o. unwrap_or o false) (get-set_same marks q true lt)

        either : (b : Bool) (m : Bool) → m ≡ true → cond b true m ≡ true
        either true m e = refl
        either false m e = e

        more : (q : ℕ) (marks : List Bool) (row : ℕ) → q < length marks → is_marked marks row ≡ true → is_marked (set marks q true) row ≡ true
        more q marks row lt e = mark-set marks q row lt ∙ either (eqb row q) (is_marked marks row) e

    pub risen_more : (left : ℕ) (marks new : List Bool) → left < length order → new ≡ with_parent parent marks (slice_index order left) → IsRisen rows order old (left + 1) marks → IsRisen rows order old left new
    risen_more left marks new lt is h = subst (λ (ms : List Bool). IsRisen rows order old left ms) (sym is) (by (is_marked marks (slice_index order left)) (parent (slice_index order left)) refl refl)
      where
        by : (b : Bool) (o : Option ℕ) → is_marked marks (slice_index order left) ≡ b → parent (slice_index order left) ≡ o → IsRisen rows order old left (cond b (with_mark o marks) marks)
        by true None on up = unmoved left marks lt h (λ p e at. let no : Some p ≡ None = sym at ∙ up in absurd cc)
        by true (Some q) on up = raised left q marks lt h on up
        by false o off up = unmoved left marks lt h (λ p e at. let no : true ≡ false = sym e ∙ off in absurd cc)

    pub risen_all : (marks : List Bool) → IsRisen rows order old 0 marks → IsMarkedUp parent rows old marks
    risen_all marks h = record {
      kept = h.kept;
      only = h.only;
      up = λ row p lt e is.
          let c = ordered.whole row lt in
          let here : slice_index order c.0 ≡ row = get_any order c.0 0 row c.1 ∙ c.2 in
          h.up c.0 p (omega arith) c.1 (ap (is_marked marks) here ∙ e) (ap parent here ∙ is);
    }
