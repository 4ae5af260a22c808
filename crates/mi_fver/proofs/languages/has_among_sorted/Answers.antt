-- Numbers that don't fall hold one exactly where halving finds it.
use Rattle.std.proofs.Common.{◌≡◌, ◌<◌, ◌≤◌, ◌≢◌, ◌∙◌, ℕ, suc, false, List, [], ◌∷◌, length, get_or, Result, Ok, Err, refl, sym, arith, inl, inr}
use Rattle.std.specs.Prelude.{◌==◌}
use Rattle.std.specs.Result.{is_ok, MatchResult}
use Rattle.std.proofs.lemmas.Bool.{cases_Bool, eqb-true, eq-eqb, ltb-true}
use Rattle.std.proofs.lemmas.Bool.Decides.{nat_tests}
use Rattle.std.proofs.Math.Dec.{ltb}
use Rattle.std.proofs.lemmas.List.Folds.{list_any_at}
use Rattle.std.proofs.lemmas.List.Sorted.{searched}
use Rattle.mi_fver.specs.Rules.{has}
use Rattle.mi_fver.proofs.languages.has_among_sorted.Goals as goal

absent : (xs : List ℕ) (x : ℕ) → ((k : ℕ) → k < length xs → get_or xs k 0 ≢ x) → has xs x ≡ false
absent [] x h = refl
absent (y ∷ xs) x h =
    elim (cases_Bool (y == x)) [
      | inl is ↦ absurd (h 0 (omega arith) (eqb-true y x is))
      | inr is_not ↦ rw is_not (absent xs x (λ k lt. h (suc k) (omega arith)))
    ]

told : (xs : List ℕ) (x : ℕ) (r : Result ℕ ℕ) → MatchResult r (λ i. (i < length xs) × (get_or xs i 0 ≡ x)) (λ i. (i ≤ length xs) × ((k : ℕ) → k < i → get_or xs k 0 < x) × ((k : ℕ) → i ≤ k → k < length xs → x < get_or xs k 0)) → is_ok r ≡ has xs x
told xs x (Ok i) h = sym (list_any_at (λ y. y == x) xs i 0 h.0 (eq-eqb (get_or xs i 0) x h.1))
told xs x (Err i) h = sym (absent xs x (λ k lt e. elim (cases_Bool (ltb k i)) [
  | inl front ↦ let low = h.1 k (ltb-true k i front) in omega arith
  | inr back ↦ let high = h.2 k (grind (arith, nat_tests)) lt in omega arith
]))

pub returns : goal.returns
returns c = c.is_ok.ensures.value ∙ told c.args.languages.now c.args.language c.binary_search.result (searched c.args.languages.now c.args.language c.binary_search.result c.binary_search.ensures.position (λ i j le lt. c.requires i j 0 le lt))
