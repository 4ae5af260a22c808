use Rattle.std.proofs.Common.{◌≡◌, ◌++◌, drop}
use Rattle.mi_regval.specs.Lists.{others}
use Rattle.mi_regval.proofs.items.other_items.Given as goal

abbrev pub invariant-loop-item : goal.invariant-loop-item
invariant-loop-item l = l.kept.items ++ others l.fn.added (drop l.item-index l.old) ≡ others l.fn.added l.old
