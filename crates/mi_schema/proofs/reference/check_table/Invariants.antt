use Rattle.std.proofs.Common.{◌≡◌, ◌+◌, length}
use Rattle.mi_schema.specs.References.{first_dangling}
use Rattle.mi_schema.specs.RowsOf.{rows_in, behind}
use Rattle.mi_schema.proofs.reference.check_table.Given as goal

abbrev pub invariant-loop-row : goal.invariant-loop-row
invariant-loop-row g l = record {
  counted : l.number + length l.row-iterator ≡ length l.rows.entries + 1;
  same : first_dangling l.table (g.R.Refers.dangling (rows_in l.loaded)) l.number l.row-iterator ≡ first_dangling l.table (g.R.Refers.dangling (rows_in l.loaded)) 1 (behind l.rows.entries);
}
