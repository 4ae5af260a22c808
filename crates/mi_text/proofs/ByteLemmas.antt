-- Bytes by their indexes.
use Rattle.std.proofs.Common.{◌≡◌, ℕ, zero, suc, ◌<◌, Bool, true, false, ◌&&◌, List, [], ◌∷◌, get_or, refl, arith}
use Rattle.std.proofs.lemmas.Bool.{ltb-true, lt-ltb}
use Rattle.mi_text.specs.Bytes.{are_bytes}

pub both : (a b : Bool) → (a && b) ≡ true → (a ≡ true) × (b ≡ true)
both true b e = (refl, e)
both false b e = absurd cc

pub and_true : (a b : Bool) → a ≡ true → b ≡ true → (a && b) ≡ true
and_true a b p q = rw (p, q) refl

-- each byte by its index
pub by_index : (xs : List ℕ) → are_bytes xs ≡ true → (i : ℕ) → get_or xs i 0 < 256
by_index [] e i = omega arith
by_index (x ∷ xs) e zero = ltb-true x 256 (both _ _ e).0
by_index (x ∷ xs) e (suc i) = by_index xs (both _ _ e).1 i

pub from_index : (xs : List ℕ) → ((i : ℕ) → get_or xs i 0 < 256) → are_bytes xs ≡ true
from_index [] h = refl
from_index (x ∷ xs) h = and_true _ _ (lt-ltb x 256 (h 0)) (from_index xs (λ i. h (suc i)))
