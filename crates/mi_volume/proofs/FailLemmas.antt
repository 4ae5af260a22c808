-- The listed numbers of failing calls, in order.
use Rattle.std.proofs.Common.{◌≡◌, ◌+◌, ◌<◌, ◌==◌, ◌||◌, ℕ, Bool, true, false, cond, length, ◌≤◌, List, get_or, take, refl, sym, ap, ◌∙◌, arith}
use Rattle.std.proofs.lemmas.List.{take_all}
use Rattle.std.proofs.lemmas.List.Folds.{list_any_more}
use Rattle.std.specs.BTreeSet.{BTreeSet, Updates, contains}
use Rattle.std.specs.List.{list_any}
use Rattle.std.specs.Ordering.{nat_cmp, is_eq}

same_numbers : (x q : ℕ) → is_eq (nat_cmp x q) ≡ (x == q)
same_numbers x q = grind arith

-- the first i of the listed numbers are in the set
abbrev pub HasFirst : List ℕ → ℕ → BTreeSet ℕ → Type 0
HasFirst listed i numbers = (q : ℕ) → contains nat_cmp numbers q ≡ list_any (λ n. n == q) (take i listed)

pub has_more : (listed : List ℕ) (i : ℕ) (numbers new : BTreeSet ℕ) → i < length listed → HasFirst listed i numbers → Updates nat_cmp numbers new (get_or listed i 0) true → HasFirst listed (i + 1) new
has_more listed i numbers new within first updates q =
    updates.0 q ∙ ap (λ b. cond b true (contains nat_cmp numbers q)) (same_numbers (get_or listed i 0) q) ∙ ap (cond (get_or listed i 0 == q) true) (first q)
    ∙ swapped (get_or listed i 0 == q) (list_any (λ n. n == q) (take i listed)) ∙ sym (list_any_more (λ n. n == q) listed i 0 within)
  where
    swapped : (a b : Bool) → cond a true b ≡ (b || a)
    swapped true true = refl
    swapped true false = refl
    swapped false true = refl
    swapped false false = refl

pub has_all : (listed : List ℕ) (i : ℕ) (numbers : BTreeSet ℕ) → length listed ≤ i → HasFirst listed i numbers → (q : ℕ) → contains nat_cmp numbers q ≡ list_any (λ n. n == q) listed
has_all listed i numbers end first q = first q ∙ ap (list_any (λ n. n == q)) (take_all i listed end)
