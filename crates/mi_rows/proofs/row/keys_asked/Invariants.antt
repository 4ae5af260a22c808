use Rattle.std.proofs.Common.{map, take}
use Rattle.mi_idt.specs.Means.{meaning}
use Rattle.mi_rows.specs.Columns.{table_as}
use Rattle.mi_rows.specs.Reads.{KnowsKeys}
use Rattle.mi_rows.specs.Rows.{keys_of}
use Rattle.mi_rows.specs.Values.{row_of}
use Rattle.mi_rows.proofs.row.keys_asked.Given as goal

abbrev pub invariant-loop-number : goal.invariant-loop-number
invariant-loop-number l = KnowsKeys l.keys (keys_of (map (row_of (table_as l.layout).columns) (take l.number (meaning l.table).rows)))
