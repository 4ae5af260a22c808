-- Items of variables.
use Rattle.std.proofs.Common.{◌≡◌, ℕ, suc, ◌+◌, Bool, true, false, not, cond, List, [], ◌∷◌, ◌++◌, map, length, Option, Some, None, Bor, refl, sym, ap, ◌∙◌, arith}
use Rattle.std.specs.Prelude.{◌==◌, nat_eq, nat_lt}
use Rattle.std.specs.List.{position_or_len, remove, join_by, join_with_byte}
use Rattle.std.specs.Cmp.Lexicographic.{pointwise, bytes_decides}
use Rattle.std.proofs.lemmas.Bool.Decides.{nat_tests}
use Rattle.std.proofs.lemmas.List.{append-nil}
use Rattle.mi_text.specs.Maps.{Name, same_name}
use Rattle.mi_text.proofs.MapLemmas.{from_same, same_itself}
use Rattle.mi_model.specs.ListItems.{without_first}
use Rattle.mi_variables.specs.Lefts.{left}

-- ---- a test that decides whether two texts are one

pub told_same : (r : Bool) (p q : Name) → (r ≡ true → p ≡ q) → (p ≡ q → r ≡ true) → r ≡ same_name p q
told_same true p q is back = sym (ap (same_name p) (sym (is refl)) ∙ same_itself p)
told_same false p q is back = elim (same_name p q) as (λ b. same_name p q ≡ b → false ≡ b) [
  | true ↦ λ at. back (from_same p q at)
  | false ↦ λ at. refl
] refl

-- ---- the first item that equals a part

abbrev pub is_part : Name → Bor Name → Bool
is_part part item = pointwise nat_eq item.now part

abbrev texts : List (Bor Name) → List Name
texts items = map (λ (i : Bor Name). i.now) items

part_is : (part : Name) (item : Bor Name) → is_part part item ≡ same_name part item.now
part_is part item = told_same (is_part part item) part item.now (λ on. sym ((bytes_decides item.now part).0 on)) (λ same. (bytes_decides item.now part).1 (sym same))

one_up : (n : ℕ) → 1 + n ≡ suc n
one_up n = omega arith

one_more : (n m : ℕ) → nat_lt (1 + n) (suc m) ≡ nat_lt n m
one_more n m = elim (nat_lt n m) as (λ b. nat_lt n m ≡ b → nat_lt (1 + n) (suc m) ≡ b) [
  | true ↦ λ is. grind (arith, nat_tests)
  | false ↦ λ is. grind (arith, nat_tests)
] refl

first_in : (n : ℕ) → nat_lt 0 (suc n) ≡ true
first_in n = grind (arith, nat_tests)

-- it is found at this place
pub taken_at : (part : Name) (items : List (Bor Name)) → nat_lt (position_or_len (is_part part) items) (length items) ≡ true → texts (remove items (position_or_len (is_part part) items)) ≡ without_first part (texts items)
taken_at part [] is = cc
taken_at part (x ∷ items) is = by_test (is_part part x) refl (taken_at part items) is
  where
    by_test : (b : Bool) → is_part part x ≡ b → (nat_lt (position_or_len (is_part part) items) (length items) ≡ true → texts (remove items (position_or_len (is_part part) items)) ≡ without_first part (texts items))
        → nat_lt (cond (not b) (1 + position_or_len (is_part part) items) 0) (length (x ∷ items)) ≡ true
        → texts (remove (x ∷ items) (cond (not b) (1 + position_or_len (is_part part) items) 0)) ≡ cond (same_name part x.now) (texts items) (x.now ∷ without_first part (texts items))
    by_test true at rest lt = sym (ap (λ t. cond t (texts items) (x.now ∷ without_first part (texts items))) (sym (part_is part x) ∙ at))
    by_test false at rest lt =
        ap (λ (n : ℕ). texts (remove (x ∷ items) n)) (one_up (position_or_len (is_part part) items))
        ∙ ap (λ (l : List Name). x.now ∷ l) (rest (sym (one_more (position_or_len (is_part part) items) (length items)) ∙ lt))
        ∙ sym (ap (λ t. cond t (texts items) (x.now ∷ without_first part (texts items))) (sym (part_is part x) ∙ at))

-- or nowhere
pub not_taken : (part : Name) (items : List (Bor Name)) → nat_lt (position_or_len (is_part part) items) (length items) ≡ false → texts items ≡ without_first part (texts items)
not_taken part [] is = refl
not_taken part (x ∷ items) is = by_test (is_part part x) refl (not_taken part items) is
  where
    by_test : (b : Bool) → is_part part x ≡ b → (nat_lt (position_or_len (is_part part) items) (length items) ≡ false → texts items ≡ without_first part (texts items))
        → nat_lt (cond (not b) (1 + position_or_len (is_part part) items) 0) (length (x ∷ items)) ≡ false
        → x.now ∷ texts items ≡ cond (same_name part x.now) (texts items) (x.now ∷ without_first part (texts items))
    by_test true at rest lt = let clash : true ≡ false = sym (first_in (length items)) ∙ lt in cc
    by_test false at rest lt =
        ap (λ (l : List Name). x.now ∷ l) (rest (sym (one_more (position_or_len (is_part part) items) (length items)) ∙ lt))
        ∙ sym (ap (λ t. cond t (texts items) (x.now ∷ without_first part (texts items))) (sym (part_is part x) ∙ at))

-- what a search answers
pub some_place : (n m place : ℕ) → ◌≡◌ {A = Option ℕ} (Some place) (cond (nat_lt n m) (Some n) None) → (nat_lt n m ≡ true) × (place ≡ n)
some_place n m place is = elim (nat_lt n m) as (λ b. Some place ≡ cond b (Some n) None → (b ≡ true) × (place ≡ n)) [
  | true ↦ λ e. (refl, cc)
  | false ↦ λ e. cc
] is

pub no_place : (n m : ℕ) → ◌≡◌ {A = Option ℕ} None (cond (nat_lt n m) (Some n) None) → nat_lt n m ≡ false
no_place n m is = elim (nat_lt n m) as (λ b. ◌≡◌ {A = Option ℕ} None (cond b (Some n) None) → b ≡ false) [
  | true ↦ λ e. cc
  | false ↦ λ e. refl
] is

-- ---- items that are joined

pub joined_items : (items : List (Bor Name)) → join_by (λ (i : Bor Name). i.now) (59 ∷ []) items ≡ join_with_byte 59 (texts items)
joined_items [] = refl
joined_items (x ∷ []) = append-nil x.now
joined_items (x ∷ y ∷ items) = ap (λ (rest : List ℕ). x.now ++ 59 ∷ rest) (joined_items (y ∷ items))

pub some_left : (xs : List Name) (text : Name) → (length xs == 0) ≡ false → text ≡ join_with_byte 59 xs → Some text ≡ left xs
some_left [] text some is = cc
some_left (x ∷ xs) text some is = ap Some is
