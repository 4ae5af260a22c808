-- The properties that words and commands set.
use Rattle.std.proofs.Common.{◌≡◌, ℕ, suc, ◌+◌, ◌<◌, ◌≤◌, Bool, true, false, List, [], ◌∷◌, ◌++◌, length, take, drop, Result, Ok, Err, refl, sym, ap, subst, ◌∙◌, append_assoc, arith}
use Rattle.std.specs.Prelude.{◌==◌, not, codes, IfOk, OnOk}
use Rattle.std.specs.List.{before_first, after_first, position_or_len, take_while}
use Rattle.std.proofs.lemmas.List.{length-take-le}
use Rattle.mi_text.specs.Fold.{folded}
use Rattle.mi_model.specs.Texts.{Text}
use Rattle.mi_model.specs.Assignments.{Assigned, assigned}
use Rattle.mi_model.specs.Words.{repair_sets}

-- a word that has a `=`
pub pair_is : (word name value : Text) → name ≡ before_first (λ b. b == 61) word → value ≡ after_first (λ b. b == 61) word → position_or_len (λ b. b == 61) word < length word → ◌≡◌ {A = Text × Text} (name, value) (assigned word)
pair_is word name value is_name is_value within =
    let n : ℕ = position_or_len (λ b. b == 61) word in
    let long : length (take n word) ≡ n = length-take-le n word (omega (arith, within)) in
    let next : n + 1 ≡ suc (length (take n word)) = omega (arith, long) in
    ap (λ (x : Text). (x, value)) is_name ∙ ap (λ (x : Text). (take n word, x)) (is_value ∙ ap (λ (k : ℕ). drop k word) next)

pub if_pair : {E : Type 0} (r : Result (Text × Text) E) (p q : Text × Text) → p ≡ q → IfOk r (λ x. x ≡ p) → IfOk r (λ x. x ≡ q)
if_pair r p q is = subst (λ (x : Text × Text). IfOk r (λ y. y ≡ x)) is

-- a repair with letters
sets_both : (letters : Text) → (length letters == 0) ≡ false → repair_sets (folded letters) ≡ (codes "REINSTALL", codes "ALL") ∷ (codes "REINSTALLMODE", folded letters) ∷ []
sets_both [] is = absurd cc
sets_both (letter ∷ letters) is = refl

both_so : (old first new : Assigned) (mode letters : Text) → (length letters == 0) ≡ false → first ≡ old ++ (codes "REINSTALL", codes "ALL") ∷ [] → mode ≡ folded letters → new ≡ first ++ (codes "REINSTALLMODE", mode) ∷ [] → new ≡ old ++ repair_sets (folded letters)
both_so old first new mode letters some is is_mode grows =
    grows ∙ ap (λ (l : Assigned). l ++ (codes "REINSTALLMODE", mode) ∷ []) is
    ∙ append_assoc old ((codes "REINSTALL", codes "ALL") ∷ []) ((codes "REINSTALLMODE", mode) ∷ [])
    ∙ ap (λ (m : Text). old ++ (codes "REINSTALL", codes "ALL") ∷ (codes "REINSTALLMODE", m) ∷ []) is_mode
    ∙ ap (λ (l : Assigned). old ++ l) (sym (sets_both letters some))

pub repaired : {T E : Type 0} (r : Result T E) (old first new : Assigned) (mode letters : Text) → (length letters == 0) ≡ false → first ≡ old ++ (codes "REINSTALL", codes "ALL") ∷ [] → mode ≡ folded letters → OnOk r (new ≡ first ++ (codes "REINSTALLMODE", mode) ∷ []) → OnOk r (new ≡ old ++ repair_sets (folded letters))
repaired (Ok x) old first new mode letters some is is_mode grows = both_so old first new mode letters some is is_mode grows
repaired (Err e) old first new mode letters some is is_mode grows = tt
