use Rattle.std.proofs.Common.{◌≡◌, ◌+◌, false, List, map}
use Rattle.mi_text.specs.Maps.{Name}
use Rattle.mi_rows.specs.Fields.{values_of, last_condition}
use Rattle.mi_rows.specs.Columns.{column_as}
use Rattle.mi_rows.specs.Reads.{raw_row, KnowsKeys, IsSeen}
use Rattle.mi_rows.specs.Values.{Row}
use Rattle.mi_rows.proofs.RowLemmas.{IsReading}
use Rattle.mi_rows.proofs.row.read_row.Given as goal

abbrev pub invariant-loop-i : goal.invariant-loop-i
invariant-loop-i l = record {
  reading : (keys : List Name) (before : List Row) → KnowsKeys l.seen.keys keys → IsSeen l.seen before
      → IsReading l.layout.name.now (l.number + 1) keys before (map column_as l.layout.columns.now) (raw_row l.table l.number) l.i (values_of l.fields.items);
  condition : l.take.condition ≡ last_condition (values_of l.fields.items);
  memory : l.take.failed ≡ false;
}
