use Rattle.std.proofs.Common.{◌≡◌, ◌+◌, drop, take, map}
use Rattle.std.specs.List.{flat_map}
use Rattle.mi_idt.specs.Fields.{fields_of}
use Rattle.mi_idt.specs.Means.{column_value, raw_row}
use Rattle.mi_idt.specs.Rows.{rows_fault}
use Rattle.mi_idt.proofs.rows.read_rows.Given as goal

abbrev pub invariant-loop-i : goal.invariant-loop-i
invariant-loop-i l = record {
  faults : rows_fault l.page (map column_value l.columns) (l.i + 1) (map (λ b. b.now) (drop l.i l.lines)) ≡ rows_fault l.page (map column_value l.columns) 1 (map (λ b. b.now) l.lines);
  laid : map (λ b. b.now) l.fields.items ≡ flat_map raw_row l.rows.items;
  read : map raw_row l.rows.items ≡ map fields_of (map (λ b. b.now) (take l.i l.lines));
}
