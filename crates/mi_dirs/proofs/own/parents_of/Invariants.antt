use Rattle.std.proofs.Common.{◌≡◌, map, take}
use Rattle.mi_dirs.specs.Rows.{parent_of}
use Rattle.mi_dirs.proofs.own.parents_of.Given as goal

abbrev pub invariant-loop-row : goal.invariant-loop-row
invariant-loop-row l = l.parents.items ≡ map (parent_of l.rows) (take l.row-index l.rows)
