-- A search in places that stand in byte order.
use Rattle.std.proofs.Common.{◌≡◌, ℕ, zero, suc, ◌<◌, ◌≤◌, true, false, List, [], ◌∷◌, length, take, get_or, refl, sym, ap, ◌∙◌, ◌⊎◌, inl, inr, ⊎_elim, arith}
use Rattle.std.specs.Prelude.{nat_eq}
use Rattle.std.specs.List.{starts_with}
use Rattle.std.specs.List.Sorted.{IsSorted, IsNonDecreasingBy, IsPartitionPoint}
use Rattle.std.specs.Ordering.{nat_cmp, is_lt, ordering_then, ordering_index}
use Rattle.std.specs.declared.cmp.Ordering.{Ordering}
use Rattle.std.specs.declared.cmp.Ordering.TheVariants.{Less, Equal, Greater}
use Rattle.std.specs.Cmp.{tied_itself}
use Rattle.std.proofs.lemmas.Slice.Eq.{bytes_eq-Decides}
use Rattle.std.proofs.lemmas.List.Sorted.{searchable_from_sorted}
use Rattle.std.proofs.lemmas.List.Folds.{list_any_at, list_any_none}
use Rattle.mi_text.specs.Maps.{name_cmp}
use Rattle.mi_text.proofs.MapLemmas.{names_total, names_exact}
use Rattle.mi_model.specs.Prune.{is_on_way}

-- what is less by its first bytes is less
front_less : (n : ℕ) (a b : List ℕ) → name_cmp (take n a) (take n b) ≡ Less → name_cmp a b ≡ Less
front_less zero a b less = absurd cc
front_less (suc n) [] [] less = absurd cc
front_less (suc n) [] (y ∷ b) less = refl
front_less (suc n) (x ∷ a) [] less = absurd cc
front_less (suc n) (x ∷ a) (y ∷ b) less = by_first (front_less n a b) (nat_cmp x y) less
  where
    by_first : (name_cmp (take n a) (take n b) ≡ Less → name_cmp a b ≡ Less) → (o : Ordering) → ordering_then o (name_cmp (take n a) (take n b)) ≡ Less → ordering_then o (name_cmp a b) ≡ Less
    by_first rest Less is = refl
    by_first rest Equal is = rest is
    by_first rest Greater is = absurd cc

less_is : (o : Ordering) → is_lt o ≡ true → o ≡ Less
less_is Less is = refl
less_is Equal is = absurd cc
less_is Greater is = absurd cc

fronts_rise : (n : ℕ) (a b : List ℕ) → is_lt (name_cmp a b) ≡ false → is_lt (name_cmp (take n a) (take n b)) ≡ false
fronts_rise n a b rise = elim (is_lt (name_cmp (take n a) (take n b))) as (λ t. is_lt (name_cmp (take n a) (take n b)) ≡ t → t ≡ false) [
  | true ↦ λ is. sym (ap is_lt (front_less n a b (less_is _ is))) ∙ rise
  | false ↦ λ is. refl
] refl

-- the first bytes of places in order are in order, too
pub searchable : (places : List (List ℕ)) (holder : List ℕ) → IsSorted name_cmp places → IsNonDecreasingBy (λ place. ordering_index (name_cmp (take (length holder) place) holder)) places
searchable places holder sorted = searchable_from_sorted names_total (take (length holder)) places holder (λ k d low high. fronts_rise (length holder) _ _ (sorted k d low high))

pub found_at : (places : List (List ℕ)) (holder : List ℕ) (i : ℕ) → i < length places → name_cmp (take (length holder) (get_or places i [])) holder ≡ Equal → true ≡ is_on_way places holder
found_at places holder i within equal =
    sym (list_any_at (λ place. starts_with nat_eq place holder) places i [] within ((bytes_eq-Decides holder (take (length holder) (get_or places i []))).1 (sym (names_exact _ _ equal))))

apart : (place holder : List ℕ) → (name_cmp (take (length holder) place) holder ≡ Less) ⊎ (name_cmp (take (length holder) place) holder ≡ Greater) → starts_with nat_eq place holder ≡ false
apart place holder differs = elim (starts_with nat_eq place holder) as (λ t. starts_with nat_eq place holder ≡ t → t ≡ false) [
  | true ↦ λ is.
      let equal : name_cmp (take (length holder) place) holder ≡ Equal = ap (λ (f : List ℕ). name_cmp f holder) (sym ((bytes_eq-Decides holder (take (length holder) place)).0 is)) ∙ tied_itself names_total holder in
      absurd (⊎_elim (λ e. let clash : Equal ≡ Less = sym equal ∙ e in cc) (λ e. let clash : Equal ≡ Greater = sym equal ∙ e in cc) differs)
  | false ↦ λ is. refl
] refl

pub none_at : (places : List (List ℕ)) (holder : List ℕ) (i : ℕ) → IsPartitionPoint (λ place. name_cmp (take (length holder) place) holder ≡ Less) (λ place. name_cmp (take (length holder) place) holder ≡ Greater) places i → false ≡ is_on_way places holder
none_at places holder i parts = sym (list_any_none (λ place. starts_with nat_eq place holder) places (λ k d within. ⊎_elim
    (λ low. apart _ holder (inl (parts.0 k d (omega arith) low)))
    (λ high. apart _ holder (inr (parts.1 k d high within)))
    (before_or_behind k i)))
  where
    before_or_behind : (k i : ℕ) → (k < i) ⊎ (i ≤ k)
    before_or_behind k i = grind arith
