use Rattle.std.proofs.Common.{◌≡◌, take}
use Rattle.std.specs.List.{filter_map}
use Rattle.mi_world.specs.Systems.{pair_folder}
use Rattle.mi_world.proofs.system.folders_in.Given as goal

abbrev pub invariant-loop-pair : goal.invariant-loop-pair
invariant-loop-pair l = l.folders.items ≡ filter_map pair_folder (take l.pair-index l.pairs)
