use Rattle.std.proofs.Common.{◌≡◌, true, false, map, take}
use Rattle.mi_idt.specs.Means.{meaning}
use Rattle.mi_rows.specs.Columns.{table_as}
use Rattle.mi_rows.specs.Reads.{KnowsKeys, keys_asked, IsSeen}
use Rattle.mi_rows.specs.Typed.{keyed}
use Rattle.mi_rows.specs.Values.{row_of}
use Rattle.mi_rows.proofs.RowLemmas.{SameRows}
use Rattle.mi_rows.proofs.Words.{each_suits}
use Rattle.mi_rows.proofs.row.fill_rows.Given as goal

abbrev pub invariant-loop-number : goal.invariant-loop-number
invariant-loop-number g l = record {
  rows : l.rows.entries ≡ keyed g.K.Key.key g.R.TableRow.value (map (row_of (table_as l.layout).columns) (take l.number (meaning l.table).rows));
  suit : each_suits (table_as l.layout).columns (map (row_of (table_as l.layout).columns) (take l.number (meaning l.table).rows)) ≡ true;
  seen : IsSeen l.seen (map (row_of (table_as l.layout).columns) (take l.number (meaning l.table).rows));
  knows : KnowsKeys l.seen.keys (keys_asked (table_as l.layout) (meaning l.table));
  memory : l.take.failed ≡ false;
  fault : SameRows (table_as l.layout) (keys_asked (table_as l.layout) (meaning l.table)) (meaning l.table).rows l.number;
}
