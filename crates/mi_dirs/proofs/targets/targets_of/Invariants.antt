use Rattle.std.proofs.Common.{◌≡◌, length}
use Rattle.mi_dirs.specs.Views.{TargetFolders}
use Rattle.mi_dirs.proofs.FilledLemmas.{Filled}
use Rattle.mi_dirs.proofs.TargetLemmas.{value_of}
use Rattle.mi_dirs.proofs.targets.targets_of.Given as goal

abbrev pub invariant-loop-row : goal.invariant-loop-row
invariant-loop-row l = (length l.targets.items ≡ length l.rows) × TargetFolders l.targets.items × Filled (value_of l.rows l.changed l.own) l.order l.row-index l.targets.items
