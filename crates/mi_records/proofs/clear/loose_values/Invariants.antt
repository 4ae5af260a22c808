use Rattle.std.proofs.Common.{◌≡◌, Bool, not, List, ℕ, take}
use Rattle.std.specs.Prelude.{filter}
use Rattle.mi_records.specs.Removing.{Guards}
use Rattle.mi_records.proofs.clear.loose_values.Given as goal

abbrev pub invariant-loop-name : goal.invariant-loop-name
invariant-loop-name l = (guarded : List ℕ → Bool) → Guards l.guards guarded → l.loose.items ≡ filter (λ q. not (guarded q)) (take l.name-index l.names)
