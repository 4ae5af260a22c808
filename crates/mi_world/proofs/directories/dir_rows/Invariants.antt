use Rattle.std.proofs.Common.{◌≡◌, map, take}
use Rattle.mi_schema.specs.RowsOf.{rows_in}
use Rattle.mi_model.specs.Properties.{dir_row}
use Rattle.mi_world.proofs.directories.dir_rows.Given as goal

abbrev pub invariant-loop-place : goal.invariant-loop-place
invariant-loop-place l = l.rows.items ≡ map dir_row (take l.place (rows_in l.loaded).directory)
