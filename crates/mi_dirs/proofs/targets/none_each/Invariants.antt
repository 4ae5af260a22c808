use Rattle.std.proofs.Common.{◌≡◌, length}
use Rattle.mi_dirs.specs.Views.{TargetFolders}
use Rattle.mi_dirs.proofs.targets.none_each.Given as goal

abbrev pub invariant-loop-row : goal.invariant-loop-row
invariant-loop-row l = (length l.targets.items ≡ l._row) × TargetFolders l.targets.items
