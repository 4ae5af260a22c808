-- From the last row to the first.
use Rattle.mi_schema.specs.RowsOf.{rows_in}
use Rattle.mi_seq.proofs.OrderLemmas.{seated_start, seated_below, seated_end}
use Rattle.mi_seq.proofs.seats.seats_of.Goals as goal

pub loop-place-init : goal.loop-place-init
unfolding rows_in
loop-place-init c = seated_start c.args.loaded.now.install_execute_sequence.entries c.len-place.result c.new-seats.result.entries c.len-place.ensures.len c.new-seats.ensures.empty

pub loop-place-preserved : goal.loop-place-preserved
loop-place-preserved c = c.in_ok-seat.ensures (seated_below (rows_in c.args.loaded.now).install_execute_sequence c.loop-place.place c.loop-place.seats.entries c.loop-place-test.true c.loop-place.invariant)

pub returns : goal.returns
returns c = seated_end (rows_in c.args.loaded.now).install_execute_sequence c.loop-place.place c.loop-place.seats.entries c.loop-place-test.false c.loop-place.invariant
