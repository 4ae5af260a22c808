use Rattle.std.proofs.Common.{◌≡◌, map, take}
use Rattle.mi_records.specs.Removing.{held_name}
use Rattle.mi_records.proofs.below.names_of_values.Given as goal

abbrev pub invariant-loop-value : goal.invariant-loop-value
invariant-loop-value l = l.names.items ≡ map held_name (take l.value-index l.values)
