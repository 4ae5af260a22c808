use Rattle.std.proofs.Common.{◌≡◌, take}
use Rattle.std.specs.Prelude.{filter}
use Rattle.mi_files.specs.Taking.{is_in_force}
use Rattle.mi_files.proofs.rows.in_force.Given as goal

abbrev pub invariant-loop-row : goal.invariant-loop-row
invariant-loop-row g l = l.taken.items ≡ filter (λ r. is_in_force (g.E.Sees.choices l.seen) r.1.now) (take l.row-index l.rows)
