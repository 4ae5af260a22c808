use Rattle.std.proofs.Common.{◌≡◌, map, take}
use Rattle.mi_schema.specs.RowsOf.{rows_in}
use Rattle.mi_world.specs.Firsts.{property_pair}
use Rattle.mi_world.proofs.first.table_pairs.Given as goal

abbrev pub invariant-loop-place : goal.invariant-loop-place
invariant-loop-place l = l.pairs.items ≡ map property_pair (take l.place (rows_in l.loaded).property)
