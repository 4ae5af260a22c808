use Rattle.mi_schema.specs.RowsOf.{rows_in}
use Rattle.mi_world.specs.Directories.{HasDirectories}
use Rattle.mi_world.proofs.directories.set_directories.Given as goal

abbrev pub invariant-loop-place : goal.invariant-loop-place
invariant-loop-place l = HasDirectories (rows_in l.loaded).directory l.dirs l.fn.props l.place l.props

abbrev pub decreases-loop-place : goal.decreases-loop-place
decreases-loop-place l = l.place
