-- Names that begin with some bytes.
use Rattle.std.proofs.Common.{◌≡◌, ℕ, true, List, [], ◌∷◌, ◌++◌, ◌&&◌, length, take, drop, refl, sym, ap, ◌∙◌, take_at, eq-eqb}
use Rattle.std.specs.Prelude.{nat_eq}
use Rattle.std.specs.List.{starts_with}
use Rattle.std.proofs.lemmas.List.{take-append-drop}
use Rattle.std.proofs.lemmas.Slice.Eq.{bytes_eq-Decides}

pub starts_is : (q p : List ℕ) → starts_with nat_eq q p ≡ true → q ≡ p ++ drop (length p) q
starts_is q p is = sym (ap (λ (f : List ℕ). f ++ drop (length p) q) ((bytes_eq-Decides p (take (length p) q)).0 is) ∙ take-append-drop (length p) q)

pub starts_append : (p r : List ℕ) → starts_with nat_eq (p ++ r) p ≡ true
starts_append p r = (bytes_eq-Decides p (take (length p) (p ++ r))).1 (sym (take_at p r (length p) refl))

-- behind the same bytes
pub starts_behind : (k a b : List ℕ) → starts_with nat_eq (k ++ a) (k ++ b) ≡ starts_with nat_eq a b
starts_behind [] a b = refl
starts_behind (x ∷ k) a b = ap (λ t. t && starts_with nat_eq (k ++ a) (k ++ b)) (itself x) ∙ starts_behind k a b
  where
    itself : (x : ℕ) → nat_eq x x ≡ true
    itself x = eq-eqb x x refl
