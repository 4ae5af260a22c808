-- The column Name, byte by byte.
use Rattle.std.proofs.Common.{◌≡◌, ℕ, zero, suc, ◌+◌, ◌<◌, ◌≤◌, Bool, true, false, cond, List, [], ◌∷◌, length, get_or, refl, subst, arith, add-one}
use Rattle.std.specs.Prelude.{codes}
use Rattle.std.specs.List.{prefix_len}
use Rattle.std.specs.Str.{IsUtf8, IsCharBoundary}
use Rattle.std.proofs.lemmas.Bool.Decides.{nat_tests}
use Rattle.std.proofs.lemmas.Str.{IsCharBoundary-start, IsCharBoundary-after_ascii}
use Rattle.mi_model.specs.EnvironmentRows.{is_any_of}

-- ---- the bytes in front that pass

pub front_within : (p : ℕ → Bool) (xs : List ℕ) → prefix_len p xs ≤ length xs
front_within p [] = omega arith
front_within p (x ∷ xs) = elim (p x) as (λ b. cond b (1 + prefix_len p xs) 0 ≤ length (x ∷ xs)) [
  | true ↦ let rest = front_within p xs in omega (arith, rest)
  | false ↦ omega arith
]

-- the last byte in front passes
last_passes : (p : ℕ → Bool) (xs : List ℕ) (n : ℕ) → prefix_len p xs ≡ n + 1 → p (get_or xs n 0) ≡ true
last_passes p [] n is = absurd (omega (arith, is))
last_passes p (x ∷ xs) zero is = elim (p x) as (λ b. cond b (1 + prefix_len p xs) 0 ≡ 0 + 1 → b ≡ true) [
  | true ↦ λ e. refl
  | false ↦ λ e. absurd (omega (arith, e))
] is
last_passes p (x ∷ xs) (suc n) is = elim (p x) as (λ b. cond b (1 + prefix_len p xs) 0 ≡ suc n + 1 → p (get_or xs n 0) ≡ true) [
  | true ↦ λ e. last_passes p xs n (omega (arith, e))
  | false ↦ λ e. absurd (omega (arith, e))
] is

-- a prefix is one byte of ASCII
small_prefix : (b : ℕ) → is_any_of (codes "=+-!*") b ≡ true → b < 128
small_prefix b is = grind (arith, nat_tests)

abbrev front : List ℕ → ℕ
front name = prefix_len (is_any_of (codes "=+-!*")) name

-- a text may be cut behind its prefixes
pub front_boundary : (name : List ℕ) → IsUtf8 name → IsCharBoundary name (front name)
front_boundary name text = by_length (front name) refl (front_within (is_any_of (codes "=+-!*")) name)
  where
    by_length : (n : ℕ) → front name ≡ n → front name ≤ length name → IsCharBoundary name n
    by_length zero is within = IsCharBoundary-start name text
    by_length (suc n) is within =
        let more : front name ≡ n + 1 = omega (arith, is) in
        subst (λ k. IsCharBoundary name k) (add-one n)
        (IsCharBoundary-after_ascii name n text (omega (arith, more, within)) (small_prefix (get_or name n 0) (last_passes (is_any_of (codes "=+-!*")) name n more)))
