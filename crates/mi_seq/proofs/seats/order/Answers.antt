-- The places of the rows in the order of their seats.
use Rattle.mi_schema.specs.RowsOf.{rows_in}
use Rattle.mi_model.specs.Sequence.{sequence}
use Rattle.mi_seq.proofs.OrderLemmas.{seated_all}
use Rattle.mi_seq.proofs.seats.order.Goals as goal

pub returns : goal.returns
unfolding sequence
returns c = seated_all (rows_in c.args.loaded.now).install_execute_sequence c.in_ok-seats.seats.entries c.in_ok-places.places.items c.in_ok-seats.ensures c.in_ok-places.ensures
