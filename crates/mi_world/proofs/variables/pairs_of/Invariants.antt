use Rattle.std.proofs.Common.{◌≡◌, map, take}
use Rattle.std.specs.List.{filter_map}
use Rattle.mi_world.specs.Variables.{pair_at}
use Rattle.mi_world.proofs.variables.pairs_of.Given as goal

abbrev pub invariant-loop-name : goal.invariant-loop-name
invariant-loop-name l = l.pairs.items ≡ filter_map (pair_at l.image) (map (λ n. n.now) (take l.name-index l.names))
