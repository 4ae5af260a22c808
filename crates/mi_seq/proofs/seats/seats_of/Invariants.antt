use Rattle.mi_schema.specs.RowsOf.{rows_in}
use Rattle.mi_seq.specs.Seats.{AreSeated}
use Rattle.mi_seq.proofs.seats.seats_of.Given as goal

abbrev pub invariant-loop-place : goal.invariant-loop-place
invariant-loop-place l = AreSeated (rows_in l.loaded).install_execute_sequence l.place l.seats.entries

abbrev pub decreases-loop-place : goal.decreases-loop-place
decreases-loop-place l = l.place
