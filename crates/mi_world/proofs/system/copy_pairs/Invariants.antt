use Rattle.std.proofs.Common.{◌≡◌, map, take}
use Rattle.mi_world.specs.Systems.{lent_pair}
use Rattle.mi_world.proofs.system.copy_pairs.Given as goal

abbrev pub invariant-loop-name : goal.invariant-loop-name
invariant-loop-name l = l.copies.items ≡ map lent_pair (take l.name-index l.pairs)
