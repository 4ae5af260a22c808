-- What each of some rows gives, where none is refused.
use Rattle.std.proofs.Common.{◌≡◌, List, [], ◌∷◌, refl, sym, ap, subst, ◌∙◌, inl, inr}
use Rattle.std.specs.Prelude.{Result, Ok}
use Rattle.mi_base.specs.declared.answers.Fault.{Fault}
use Rattle.mi_model.specs.Refusals.{◌>>=◌, each}
use Rattle.mi_model_laws.proofs.RowLemmas.{from_ok, bound}
use Rattle.mi_installs.proofs.PlaceLemmas.{In}

-- each of the results is one of a row, and each row has one
pub record Gives {A B : Type 0} (f : A → Result B Fault) (xs : List A) (ys : List B) : Type 0 where
  pub back : (y : B) → In y ys → (x : A) × In x xs × (f x ≡ Ok y)
  pub on : (x : A) → In x xs → (y : B) × In y ys × (f x ≡ Ok y)

pub each_gives : {A B : Type 0} (f : A → Result B Fault) (xs : List A) (ys : List B) → each f xs ≡ Ok ys → Gives f xs ys
each_gives {A} {B} f [] ys e =
    let none : ys ≡ [] = sym (from_ok [] ys e) in
    record { back = λ y i. absurd (subst (In y) none i); on = λ x i. absurd i }
each_gives {A} {B} f (x ∷ xs) ys e =
    let one = bound (f x) (λ y. each f xs >>= λ rest. Ok (y ∷ rest)) ys e in
    let more = bound (each f xs) (λ rest. Ok (one.value ∷ rest)) ys one.rest in
    let is : ys ≡ one.value ∷ more.value = sym (from_ok (one.value ∷ more.value) ys more.rest) in
    let rest = each_gives f xs more.value more.is in
    record {
      back = λ y i. back rest one.value one.is y (subst (In y) is i);
      on = λ z i. subst (λ (l : List B). (y : B) × In y l × (f z ≡ Ok y)) (sym is) (on rest one.value one.is z i);
    }
  where
    back : {vs : List B} → Gives f xs vs → (v : B) → f x ≡ Ok v → (y : B) → In y (v ∷ vs) → (z : A) × In z (x ∷ xs) × (f z ≡ Ok y)
    back rest v is y (inl e) = (x, inl refl, is ∙ ap Ok (sym e))
    back rest v is y (inr i) = let there = rest.back y i in (there.0, inr there.1, there.2)

    on : {vs : List B} → Gives f xs vs → (v : B) → f x ≡ Ok v → (z : A) → In z (x ∷ xs) → (y : B) × In y (v ∷ vs) × (f z ≡ Ok y)
    on rest v is z (inl e) = (v, inl refl, ap f e ∙ is)
    on rest v is z (inr i) = let there = rest.on z i in (there.0, inr there.1, there.2)
