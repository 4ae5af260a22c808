use Rattle.std.proofs.Common.{◌≡◌, take}
use Rattle.mi_print.proofs.trees.common_len.Given as goal

abbrev pub invariant-loop-i : goal.invariant-loop-i
invariant-loop-i l = take l.i l.former ≡ take l.i l.path
