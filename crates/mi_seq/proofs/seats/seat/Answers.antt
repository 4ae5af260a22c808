-- The row at the place, if there is one.
use Rattle.std.proofs.Common.{sym}
use Rattle.mi_schema.specs.RowsOf.{rows_in}
use Rattle.mi_seq.proofs.OrderLemmas.{seated_none, if_ok}
use Rattle.mi_seq.proofs.seats.seat.Goals as goal

pub returns-in-Some : goal.returns-in-Some
returns-in-Some c = if_ok c.seat_row.result c.seat_row.ensures (λ has. has (rows_in c.args.loaded.now).install_execute_sequence (sym c.in-Some.ensures))

pub returns-in-None : goal.returns-in-None
returns-in-None c = seated_none (rows_in c.args.loaded.now).install_execute_sequence c.args.place c.args.seats.now.entries (sym c.in-None.ensures)
