use Rattle.std.proofs.Common.{◌≡◌, take}
use Rattle.std.specs.Prelude.{filter}
use Rattle.mi_environment.specs.Variables.{is_taken}
use Rattle.mi_environment.proofs.rows.taking.Given as goal

abbrev pub invariant-loop-row : goal.invariant-loop-row
invariant-loop-row g l = l.taken.items ≡ filter (λ r. is_taken (g.S.Sees.choices l.seen) r.1.now) (take l.row-index l.rows)
