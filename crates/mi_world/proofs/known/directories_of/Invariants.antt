use Rattle.mi_schema.specs.RowsOf.{rows_in}
use Rattle.mi_world.specs.Known.{AreDirectories}
use Rattle.mi_world.proofs.known.directories_of.Given as goal

abbrev pub invariant-loop-place : goal.invariant-loop-place
invariant-loop-place l = AreDirectories (rows_in l.loaded).component l.place l.table

abbrev pub decreases-loop-place : goal.decreases-loop-place
decreases-loop-place l = l.place
