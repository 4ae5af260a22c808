use Rattle.std.proofs.Common.{◌≡◌, ◌++◌, map, length}
use Rattle.std.specs.Vec.Iter.{into_iter_items, into_iter_len}
use Rattle.mi_plan.specs.Made.{as_planned}
use Rattle.mi_commands.specs.Room.{scripts_in}
use Rattle.mi_commands.proofs.room.scripts_of.Given as goal

abbrev pub invariant-loop-segment : goal.invariant-loop-segment
invariant-loop-segment l = (l.scripts.items ++ scripts_in (map as_planned (into_iter_items l.segment-iterator)) ≡ scripts_in (map as_planned (into_iter_items l.initial.segment-iterator)))
    × (into_iter_len l.segment-iterator ≡ length (into_iter_items l.segment-iterator))
