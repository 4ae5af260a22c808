use Rattle.std.proofs.Common.{◌≡◌, map, take}
use Rattle.std.specs.List.{filter_map}
use Rattle.mi_steps.specs.Trees.{seat_in, keeps}
use Rattle.mi_steps.proofs.prune.all_keeping.Given as goal

abbrev pub invariant-loop-name : goal.invariant-loop-name
invariant-loop-name l = l.places.items ≡ filter_map (λ q. keeps l.touched (seat_in l.tree q)) (map (λ n. n.now) (take l.name-index l.names))
