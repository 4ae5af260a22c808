use Rattle.std.proofs.Common.{◌≡◌, None, take}
use Rattle.std.specs.Prelude.{is_none}
use Rattle.mi_dirs.specs.Places.{first_row}
use Rattle.mi_dirs.proofs.targets.first_refused.Given as goal

abbrev pub invariant-loop-row : goal.invariant-loop-row
invariant-loop-row l = first_row is_none (take l.row l.targets) ≡ None
