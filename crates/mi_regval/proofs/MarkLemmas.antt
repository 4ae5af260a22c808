-- Bytes 0 at the ends of a text, by what it is cut to.
use Rattle.std.proofs.Common.{◌≡◌, ◌≢◌, ℕ, true, false, cond, List, [], ◌∷◌, ◌++◌, refl, sym, ap, inl, inr}
use Rattle.std.specs.Prelude.{◌==◌}
use Rattle.std.proofs.lemmas.Bool.{cases_Bool, eqb-true}
use Rattle.mi_regval.specs.Lists.{is_zero, has_front, without_front, has_end, without_end}

pub other_front : (c : ℕ) (b : ℕ) (bs : List ℕ) → ((rest : List ℕ) → b ∷ bs ≢ c ∷ rest) → (b == c) ≡ false
other_front c b bs h = elim (cases_Bool (b == c)) [ inl is ↦ absurd (h bs (ap (λ x. x ∷ bs) (eqb-true b c is))) | inr is_not ↦ is_not ]

pub no_front : (text : List ℕ) → ((rest : List ℕ) → text ≢ 0 ∷ rest) → (false ≡ has_front text) × (text ≡ without_front text)
no_front [] h = (refl, refl)
no_front (b ∷ bs) h = let other = other_front 0 b bs h in (sym other, sym (ap (λ t. cond t bs (b ∷ bs)) other))

pub end_there : (x : List ℕ) → (true ≡ has_end (x ++ 0 ∷ [])) × (x ≡ without_end (x ++ 0 ∷ []))
end_there [] = (refl, refl)
end_there (b ∷ []) = (refl, refl)
end_there (b ∷ c ∷ x) = let rest = end_there (c ∷ x) in (rest.0, ap (λ (q : List ℕ). b ∷ q) rest.1)

pub no_end : (text : List ℕ) → ((front : List ℕ) → text ≢ front ++ 0 ∷ []) → (false ≡ has_end text) × (text ≡ without_end text)
no_end [] h = (refl, refl)
no_end (b ∷ []) h =
    elim (cases_Bool (is_zero b)) [
      | inl is ↦ absurd (h [] (ap (λ x. x ∷ []) (eqb-true b 0 is)))
      | inr is_not ↦ (sym is_not, sym (ap (λ t. cond t [] (b ∷ [])) is_not))
    ]
no_end (b ∷ c ∷ bs) h = let rest = no_end (c ∷ bs) (λ front e. h (b ∷ front) (ap (λ (q : List ℕ). b ∷ q) e)) in (rest.0, ap (λ (q : List ℕ). b ∷ q) rest.1)
