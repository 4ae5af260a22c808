-- A condition token by token to its end, where brackets and NOT nest to a limit; for proofs alone.
use Rattle.std.specs.Prelude.{ℕ, nat_le, if◌then◌else◌, List, [], ◌∷◌, Option, Some, None, option_and_then}
use Rattle.mi_cond.specs.declared.token.Token.{Token}
use Rattle.mi_cond.specs.Tree.{Tree}
use Rattle.mi_cond.specs.Steps.{State, depth_at, step, end_of}

abbrev pub limited : ℕ → State → Option State
limited limit n = if nat_le (depth_at n) limit then Some n else None

abbrev pub step_to : ℕ → State → Token → Option State
step_to limit s x = option_and_then (limited limit) (step s x)

abbrev pub run : ℕ → State → List Token → Option Tree
run limit s [] = end_of s
run limit s (x ∷ ts) = option_and_then (λ n. run limit n ts) (step_to limit s x)
