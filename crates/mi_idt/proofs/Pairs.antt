-- What holds of each two elements of a list, from its front.
use Rattle.std.proofs.Common.{zero, suc, List, [], ◌∷◌, arith}
use Rattle.std.specs.List.{All, AllPairs}

pub AllPairs-nil : {X : Type 0} (R : X → X → Type 0) → AllPairs R []
AllPairs-nil R i j d before within = absurd (omega arith)

pub AllPairs-cons : {X : Type 0} (R : X → X → Type 0) (x : X) (xs : List X) → All (R x) xs → AllPairs R xs → AllPairs R (x ∷ xs)
AllPairs-cons R x xs first rest zero zero d before within = absurd (omega arith)
AllPairs-cons R x xs first rest zero (suc j) d before within = first j d (omega arith)
AllPairs-cons R x xs first rest (suc i) zero d before within = absurd (omega arith)
AllPairs-cons R x xs first rest (suc i) (suc j) d before within = rest i j d (omega arith) (omega arith)

pub AllPairs-head : {X : Type 0} (R : X → X → Type 0) (x : X) (xs : List X) → AllPairs R (x ∷ xs) → All (R x) xs
AllPairs-head R x xs pairs k d within = pairs 0 (suc k) d (omega arith) (omega arith)

pub AllPairs-tail : {X : Type 0} (R : X → X → Type 0) (x : X) (xs : List X) → AllPairs R (x ∷ xs) → AllPairs R xs
AllPairs-tail R x xs pairs i j d before within = pairs (suc i) (suc j) d (omega arith) (omega arith)
