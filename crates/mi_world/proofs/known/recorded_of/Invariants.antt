use Rattle.mi_schema.specs.RowsOf.{rows_in}
use Rattle.mi_world.specs.Ground.{is_set}
use Rattle.mi_world.specs.Known.{AreRecorded}
use Rattle.mi_world.proofs.known.recorded_of.Given as goal

abbrev pub invariant-loop-place : goal.invariant-loop-place
invariant-loop-place l = AreRecorded (rows_in l.loaded).feature (is_set l.names) l.place l.flags

abbrev pub decreases-loop-place : goal.decreases-loop-place
decreases-loop-place l = l.place
