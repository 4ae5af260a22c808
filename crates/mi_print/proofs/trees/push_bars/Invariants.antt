use Rattle.std.proofs.Common.{◌≡◌, ◌++◌, ◌-◌}
use Rattle.mi_print.specs.Trees.{bars}
use Rattle.mi_print.proofs.trees.push_bars.Given as goal

abbrev pub invariant-loop-bar : goal.invariant-loop-bar
invariant-loop-bar l = l.out.items ++ bars (l.count - l._bar) ≡ l.fn.out.items ++ bars l.count
