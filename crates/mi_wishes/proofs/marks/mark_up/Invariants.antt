use Rattle.std.proofs.Common.{◌≤◌, length}
use Rattle.mi_dirs.specs.Order.{parent_in}
use Rattle.mi_wishes.proofs.MarkLemmas.{IsRisen}
use Rattle.mi_wishes.proofs.marks.mark_up.Given as goal

abbrev pub invariant-loop-left : goal.invariant-loop-left
invariant-loop-left l = (l.left ≤ length l.order) × IsRisen (parent_in l.parents) (length l.parents) l.order l.fn.marks l.left l.marks

abbrev pub decreases-loop-left : goal.decreases-loop-left
decreases-loop-left l = l.left
