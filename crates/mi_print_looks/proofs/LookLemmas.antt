-- When a marker is open, and when nothing is there.
use Rattle.std.proofs.Common.{◌≡◌, ℕ, zero, suc, Bool, true, false, not, ◌&&◌, eqb, eqb-true, List, [], ◌∷◌, take, Option, Some, None, refl, ap, arith}
use Rattle.std.specs.Prelude.{is_some, is_none}
use Rattle.std.specs.Str.{bytes_eq}
use Rattle.mi_volume.specs.Maps.{bytes_or_none}
use Rattle.mi_undo.specs.Stands.{is_one}

-- nothing is there where something isn't
pub none_by : {X : Type 0} → (o : Option X) (b : Bool) → is_some o ≡ b → is_none o ≡ not b
none_by None b e = ap not e
none_by (Some x) b e = ap not e

-- ---- a marker

more_than_one : (n : ℕ) → eqb (suc (suc n)) 1 ≡ false
more_than_one n = elim (eqb (suc (suc n)) 1) as (λ b. eqb (suc (suc n)) 1 ≡ b → b ≡ false) [
  | true ↦ λ e. absurd (let z : ⊥ = omega (arith, eqb-true (suc (suc n)) 1 e) in z)
  | false ↦ λ e. refl
] refl

-- the bytes of an open marker are the byte 1 alone
pub one_alone : (l : List ℕ) → bytes_eq l (1 ∷ []) ≡ is_one (Some l)
one_alone [] = refl
one_alone (zero ∷ l) = refl
one_alone (suc zero ∷ []) = refl
one_alone (suc zero ∷ b ∷ l) = refl
one_alone (suc (suc n) ∷ l) = ap (λ (t : Bool). t && bytes_eq l []) (more_than_one n)

-- the first two bytes tell whether a marker is open
pub two_tell : (o : Option (List ℕ)) → is_one (Some (take 2 (bytes_or_none o))) ≡ is_one o
two_tell None = refl
two_tell (Some []) = refl
two_tell (Some (zero ∷ l)) = refl
two_tell (Some (suc zero ∷ [])) = refl
two_tell (Some (suc zero ∷ b ∷ l)) = refl
two_tell (Some (suc (suc n) ∷ l)) = refl
