use Rattle.std.proofs.Common.{◌≡◌, map, drop}
use Rattle.mi_idt.specs.Means.{column_value}
use Rattle.mi_rows.specs.Columns.{column_as}
use Rattle.mi_rows.specs.Rows.{begins_with}
use Rattle.mi_rows.proofs.table.begins_with.Given as goal

abbrev pub invariant-loop-i : goal.invariant-loop-i
invariant-loop-i l = begins_with (map column_as l.known) (map column_value l.columns) ≡ begins_with (map column_as (drop l.i l.known)) (map column_value (drop l.i l.columns))
