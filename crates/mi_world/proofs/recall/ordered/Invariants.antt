use Rattle.mi_schema.specs.RowsOf.{rows_in}
use Rattle.mi_world.specs.Recall.{AreOrdered}
use Rattle.mi_world.proofs.recall.ordered.Given as goal

abbrev pub invariant-loop-place : goal.invariant-loop-place
invariant-loop-place l = AreOrdered (rows_in l.loaded).component l.place l.rows.entries

abbrev pub decreases-loop-place : goal.decreases-loop-place
decreases-loop-place l = l.place
