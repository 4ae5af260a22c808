use Rattle.std.proofs.Common.{length, vec_len}
use Rattle.mi_dirs.specs.Order.{parent_in}
use Rattle.mi_dirs.proofs.PathLemmas.{Goes}
use Rattle.mi_dirs.proofs.placing.Placing.place.Given as goal

abbrev pub invariant-loop-row : goal.invariant-loop-row
invariant-loop-row l = Goes (parent_in l.parents) (length l.parents) l.fn.self l.fn.path.items (record { order = l.order; placed = l.placed }) l.path.items

abbrev pub decreases-loop-row : goal.decreases-loop-row
decreases-loop-row l = vec_len l.path
