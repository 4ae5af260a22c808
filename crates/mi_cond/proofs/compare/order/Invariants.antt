use Rattle.std.proofs.Common.{◌≡◌, drop}
use Rattle.std.specs.Ordering.{nat_cmp}
use Rattle.std.specs.Cmp.Lexicographic.{slice_cmp}
use Rattle.mi_cond.specs.Value.{cased}
use Rattle.mi_cond.proofs.compare.order.Given as goal

abbrev pub invariant-loop-i : goal.invariant-loop-i
invariant-loop-i l = slice_cmp nat_cmp (cased l.folds (drop l.i l.left)) (cased l.folds (drop l.i l.right)) ≡ slice_cmp nat_cmp (cased l.folds l.left) (cased l.folds l.right)
