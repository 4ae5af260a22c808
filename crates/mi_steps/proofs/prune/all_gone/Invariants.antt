use Rattle.std.proofs.Common.{◌≡◌, Some, None, cond, map, take}
use Rattle.std.specs.List.{filter_map}
use Rattle.mi_steps.specs.Trees.{seat_in, passes}
use Rattle.mi_steps.proofs.prune.all_gone.Given as goal

abbrev pub invariant-loop-name : goal.invariant-loop-name
invariant-loop-name l = l.all.items ≡ filter_map (λ q. cond (passes l.rule.touched l.rule.protected l.rule.kept (seat_in l.rule.tree q)) (Some q) None) (map (λ n. n.now) (take l.name-index l.names))
