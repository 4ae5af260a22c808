use Rattle.mi_schema.specs.RowsOf.{rows_in}
use Rattle.mi_world.specs.Known.{AreHeld}
use Rattle.mi_world.proofs.known.held_of.Given as goal

abbrev pub invariant-loop-place : goal.invariant-loop-place
invariant-loop-place l = AreHeld (rows_in l.loaded).feature_components l.place l.names l.held

abbrev pub decreases-loop-place : goal.decreases-loop-place
decreases-loop-place l = l.place
