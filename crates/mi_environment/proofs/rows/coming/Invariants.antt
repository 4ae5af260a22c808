use Rattle.std.proofs.Common.{◌≡◌, take}
use Rattle.std.specs.Prelude.{filter}
use Rattle.mi_environment.proofs.rows.coming.Given as goal

abbrev pub invariant-loop-row : goal.invariant-loop-row
invariant-loop-row g l = l.taken.items ≡ filter (λ r. (g.S.Sees.choices l.seen).coming r.1.now.component) (take l.row-index l.rows)
