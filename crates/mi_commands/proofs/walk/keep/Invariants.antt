use Rattle.std.proofs.Common.{◌≡◌, ◌++◌, map, drop}
use Rattle.mi_plan.specs.Made.{as_planned}
use Rattle.mi_commands.proofs.walk.keep.Given as goal

abbrev pub invariant-loop-segment : goal.invariant-loop-segment
invariant-loop-segment l = l.kept.items ++ map as_planned (drop l.segment-index l.planned) ≡ map as_planned l.planned
