use Rattle.mi_schema.specs.RowsOf.{rows_in}
use Rattle.mi_world.specs.Places.{AreKeptPaths}
use Rattle.mi_world.proofs.placed.files_of.Given as goal

abbrev pub invariant-loop-place : goal.invariant-loop-place
invariant-loop-place l = AreKeptPaths l.directories l.dirs (rows_in l.loaded).file l.place l.files

abbrev pub decreases-loop-place : goal.decreases-loop-place
decreases-loop-place l = l.place
