-- What loops over paths find.
use Rattle.std.proofs.Common.{◌≡◌, ℕ, zero, suc, ◌+◌, ◌-◌, ◌<◌, ◌≤◌, Bool, true, false, cond, eqb, ◌||◌, ◌⊎◌, inl, inr, List, [], ◌∷◌, ◌++◌, length, take, get_or, ⊎_elim, refl, sym, ap, ◌∙◌, arith, eqb-true, eq-eqb}
use Rattle.std.specs.Prelude.{codes, min}
use Rattle.std.proofs.lemmas.Bool.{cases_lt}
use Rattle.std.specs.List.{list_any}
use Rattle.mi_text.specs.Path.{up_to_last, is_backslash}
use Rattle.mi_text.proofs.PathLemmas.{up_to_last-at}
use Rattle.mi_print.specs.Trees.{common, bars}

-- two texts are common up to where they differ or one of them ends
pub common_at : (i : ℕ) (xs ys : List ℕ) → take i xs ≡ take i ys → i ≤ length xs → i ≤ length ys → (length xs ≤ i) ⊎ ((length ys ≤ i) ⊎ (¬ (get_or xs i 0 ≡ get_or ys i 0))) → common xs ys ≡ take i ys
common_at zero [] ys same lx ly end = refl
common_at zero (x ∷ xs) [] same lx ly end = refl
common_at zero (x ∷ xs) (y ∷ ys) same lx ly (inl le) = absurd (let z : ⊥ = omega (arith, le) in z)
common_at zero (x ∷ xs) (y ∷ ys) same lx ly (inr (inl le)) = absurd (let z : ⊥ = omega (arith, le) in z)
common_at zero (x ∷ xs) (y ∷ ys) same lx ly (inr (inr other)) = elim (eqb x y) as (λ t. eqb x y ≡ t → cond t (x ∷ common xs ys) [] ≡ []) [
  | true ↦ λ t. absurd (other (eqb-true x y t))
  | false ↦ λ t. refl
] refl
common_at (suc i) [] ys same lx ly end = absurd (let z : ⊥ = omega (arith, lx) in z)
common_at (suc i) (x ∷ xs) [] same lx ly end = absurd (let z : ⊥ = omega (arith, ly) in z)
common_at (suc i) (x ∷ xs) (y ∷ ys) same lx ly end =
    let first : x ≡ y = cc in
    let rest : take i xs ≡ take i ys = cc in
    ap (λ (t : Bool). cond t (x ∷ common xs ys) []) (eq-eqb x y first) ∙ (λ j. first j ∷ common_at i xs ys rest (omega (arith, lx)) (omega (arith, ly)) (inner end) j)
  where
    inner : (length (x ∷ xs) ≤ suc i) ⊎ ((length (y ∷ ys) ≤ suc i) ⊎ (¬ (get_or (x ∷ xs) (suc i) 0 ≡ get_or (y ∷ ys) (suc i) 0))) → (length xs ≤ i) ⊎ ((length ys ≤ i) ⊎ (¬ (get_or xs i 0 ≡ get_or ys i 0)))
    inner (inl le) = inl (omega (arith, le))
    inner (inr (inl le)) = inr (inl (omega (arith, le)))
    inner (inr (inr other)) = inr (inr other)

any_more : (xs : List ℕ) (b : ℕ) → is_backslash b ≡ false → list_any is_backslash (xs ++ b ∷ []) ≡ list_any is_backslash xs
any_more [] b e = ap (λ (t : Bool). t || false) e
any_more (x ∷ xs) b e = ap (λ (t : Bool). is_backslash x || t) (any_more xs b e)

-- another byte behind doesn't change the last backslash
pub last_more : (xs : List ℕ) (b : ℕ) → is_backslash b ≡ false → up_to_last (xs ++ b ∷ []) ≡ up_to_last xs
last_more [] b e = ap (λ (t : Bool). cond t (b ∷ []) []) (any_more [] b e)
last_more (x ∷ xs) b e =
    ap (λ (t : Bool). cond t (x ∷ up_to_last (xs ++ b ∷ [])) []) (any_more (x ∷ xs) b e)
    ∙ ap (λ (p : List ℕ). cond (list_any is_backslash (x ∷ xs)) (x ∷ p) []) (last_more xs b e)

pub last_here : (xs : List ℕ) → up_to_last (xs ++ 92 ∷ []) ≡ xs ++ 92 ∷ []
last_here xs = up_to_last-at xs [] refl

pub bars_more : (n i : ℕ) → i < n → bars (n - i) ≡ codes "| " ++ bars (n - (i + 1))
bars_more n i lt = let k : n - i ≡ suc (n - (i + 1)) = omega (arith, lt) in ap bars k

pub bars_none : (n : ℕ) → bars (n - n) ≡ []
bars_none n = let k : n - n ≡ 0 = omega arith in ap bars k

take_one : (bytes : List ℕ) (i : ℕ) → i < length bytes → take (i + 1) bytes ≡ take i bytes ++ get_or bytes i 0 ∷ []
take_one [] i lt = absurd (let z : ⊥ = omega (arith, lt) in z)
take_one (b ∷ bytes) zero lt = refl
take_one (b ∷ bytes) (suc i) lt = ap (λ (k : ℕ). take k (b ∷ bytes)) (next i) ∙ ap (λ (l : List ℕ). b ∷ l) (take_one bytes i (omega (arith, lt)))
  where
    next : (i : ℕ) → suc i + 1 ≡ suc (i + 1)
    next i = omega arith

pub end_step : (bytes : List ℕ) (i end : ℕ) → i < length bytes → take end bytes ≡ up_to_last (take i bytes) → take (cond (is_backslash (get_or bytes i 0)) (i + 1) end) bytes ≡ up_to_last (take (i + 1) bytes)
end_step bytes i end lt is =
    let more : take (i + 1) bytes ≡ take i bytes ++ get_or bytes i 0 ∷ [] = take_one bytes i lt in
    elim (is_backslash (get_or bytes i 0)) as (λ t. is_backslash (get_or bytes i 0) ≡ t → take (cond t (i + 1) end) bytes ≡ up_to_last (take (i + 1) bytes)) [
      | true ↦ λ t.
          let spelled : take (i + 1) bytes ≡ take i bytes ++ 92 ∷ [] = more ∙ ap (λ (k : ℕ). take i bytes ++ k ∷ []) (eqb-true (get_or bytes i 0) 92 t) in
          spelled ∙ sym (last_here (take i bytes)) ∙ sym (ap up_to_last spelled)
      | false ↦ λ t. is ∙ sym (last_more (take i bytes) (get_or bytes i 0) t) ∙ sym (ap up_to_last more)
    ] refl

pub end_low : (t : Bool) (i end now : ℕ) → now ≡ cond t (i + 1) end → end ≤ i → now ≤ i + 1
end_low true i end now e le = omega (arith, e)
end_low false i end now e le = omega (arith, e, le)

pub min_end : (xs ys : List ℕ) (n : ℕ) → n ≡ min (length xs) (length ys) → take n xs ≡ take n ys → common xs ys ≡ take n ys
min_end xs ys n e same = ⊎_elim
    (λ (le : length xs ≤ n). common_at n xs ys same (omega (arith, e)) (omega (arith, e)) (inl le))
    (λ (le : length ys ≤ n). common_at n xs ys same (omega (arith, e)) (omega (arith, e)) (inr (inl le)))
    (either (length xs) (length ys) n e)
  where
    either : (a b n : ℕ) → n ≡ min a b → (a ≤ n) ⊎ (b ≤ n)
    either a b n e = ⊎_elim (λ (lt : a < b). inl (omega (arith, e, lt))) (λ (le : b ≤ a). inr (omega (arith, e, le))) (cases_lt a b)
