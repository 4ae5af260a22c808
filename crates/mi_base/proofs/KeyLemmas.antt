-- The parts of a key, one byte after the other; and folded texts.
use Rattle.std.proofs.Common.{◌≡◌, ℕ, Bool, true, false, cond, not, eqb, ◌&&◌, List, [], ◌∷◌, length, refl, sym, ap, ◌∙◌, arith}
use Rattle.std.specs.List.{slice_split, onto_first, list_all}
use Rattle.std.proofs.lemmas.Bool.Decides.{nat_tests}
use Rattle.mi_base.specs.Limits.{has_whole_parts}

-- whether the rest ends the parts well, where a part begins here or goes on
abbrev pub whole_on : Bool → List ℕ → Bool
whole_on begins [] = not begins
whole_on begins (b ∷ bs) = cond (eqb b 92) (not begins && whole_on true bs) (whole_on false bs)

abbrev is_some : List ℕ → Bool
is_some part = not (eqb (length part) 0)

abbrev rest_whole : List (List ℕ) → Bool
rest_whole [] = true
rest_whole (p ∷ ps) = list_all is_some ps

some_there : (b : ℕ) (bs : List ℕ) → is_some (b ∷ bs) ≡ true
some_there b bs = let e : eqb (length (b ∷ bs)) 0 ≡ false = grind (arith, nat_tests) in ap not e

onto_some : (b : ℕ) (parts : List (List ℕ)) → (list_all is_some (onto_first b parts) ≡ rest_whole parts) × (rest_whole (onto_first b parts) ≡ rest_whole parts)
onto_some b [] = (ap (λ t. t && true) (some_there b []), refl)
onto_some b (p ∷ ps) = (ap (λ t. t && list_all is_some ps) (some_there b p), refl)

parts_on : (key : List ℕ) → (list_all is_some (slice_split (λ b. eqb b 92) key) ≡ whole_on true key) × (rest_whole (slice_split (λ b. eqb b 92) key) ≡ whole_on false key)
parts_on [] = (refl, refl)
parts_on (b ∷ bs) =
    let rest = parts_on bs in
    let onto = onto_some b (slice_split (λ c. eqb c 92) bs) in
    elim (eqb b 92) as (λ t. (list_all is_some (cond t ([] ∷ slice_split (λ c. eqb c 92) bs) (onto_first b (slice_split (λ c. eqb c 92) bs))) ≡ cond t (not true && whole_on true bs) (whole_on false bs))
    × (rest_whole (cond t ([] ∷ slice_split (λ c. eqb c 92) bs) (onto_first b (slice_split (λ c. eqb c 92) bs))) ≡ cond t (not false && whole_on true bs) (whole_on false bs))) [
      | true ↦ (refl, rest.0)
      | false ↦ (onto.0 ∙ rest.1, onto.1 ∙ rest.1)
    ]

pub whole_parts : (key : List ℕ) → whole_on true key ≡ has_whole_parts key
whole_parts key = sym (parts_on key).0
