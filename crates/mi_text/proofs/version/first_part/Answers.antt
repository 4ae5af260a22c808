-- The first part of a text, cut at its first point.
use Rattle.std.proofs.Common.{◌≡◌, ◌<◌, ℕ, ◌+◌, ◌==◌, None, Bool, true, false, cond, not, List, [], ◌∷◌, length, Some, refl, ap, arith, lit<}
use Rattle.std.specs.List.{slice_split, position_or_len, onto_first, before_first, after_first}
use Rattle.std.proofs.lemmas.List.Splits.{slice_split_first}
use Rattle.std.proofs.lemmas.Str.Pattern.{split_once_first}
use Rattle.mi_text.specs.Version.{version_parts}
use Rattle.mi_text.proofs.version.first_part.Goals as goal

one_part : {X : Type 0} (p : X → Bool) (xs : List X) → position_or_len p xs ≡ length xs → slice_split p xs ≡ xs ∷ []
one_part p [] e = refl
one_part p (x ∷ xs) e =
    elim (p x) as (λ b. cond (not b) (1 + position_or_len p xs) 0 ≡ length (x ∷ xs) → cond b ([] ∷ slice_split p xs) (onto_first x (slice_split p xs)) ≡ (x ∷ xs) ∷ []) [
      | true ↦ λ h. absurd (let z : ⊥ = omega arith in z)
      | false ↦ λ h. let rest : position_or_len p xs ≡ length xs = omega arith in ap (onto_first x) (one_part p xs rest)
    ] e

cut : (text first rest : List ℕ) → first ≡ before_first (λ b. b == 46) text → rest ≡ after_first (λ b. b == 46) text → position_or_len (λ b. b == 46) text < length text → version_parts text ≡ first ∷ version_parts rest
cut text first rest a b short = rw (a, b) (slice_split_first (λ b. b == 46) text 0 short)

pub returns-in-Some : goal.returns-in-Some
returns-in-Some c =
    let parts = split_once_first 46 c.args.text.now (Some (c.in-Some.first, c.in-Some.rest)) c.in-Some.ensures.cases (lit< tt) in
    cut c.args.text.now c.in-Some.first.now c.in-Some.rest.now parts.1 parts.2 parts.0

pub returns-in-None : goal.returns-in-None
returns-in-None c = one_part (λ b. b == 46) c.args.text.now (split_once_first 46 c.args.text.now None c.in-None.ensures.cases (lit< tt))
