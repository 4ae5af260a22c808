use Rattle.std.proofs.Common.{◌≡◌, length}
use Rattle.mi_schema.specs.RowsOf.{rows_in}
use Rattle.mi_model.specs.Sequence.{next_row}
use Rattle.mi_seq.specs.Orders.{rows_at}
use Rattle.mi_seq.proofs.row.next_row.Given as goal

abbrev pub invariant-loop-place : goal.invariant-loop-place
invariant-loop-place g l = next_row (g.E.Env.lookups l.env) (rows_at (rows_in l.loaded).install_execute_sequence l.places) ≡ next_row (g.E.Env.lookups l.env) (rows_at (rows_in l.loaded).install_execute_sequence l.rest)

abbrev pub decreases-loop-place : goal.decreases-loop-place
decreases-loop-place g l = length l.rest
