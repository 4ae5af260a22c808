use Rattle.std.proofs.Common.{◌≡◌, ◌≤◌, length, map, drop}
use Rattle.std.specs.Str.{bytes_eq}
use Rattle.mi_rows.specs.Columns.{column_as}
use Rattle.mi_rows.specs.Rows.{key_places}
use Rattle.mi_rows.proofs.table.has_keys.Given as goal

abbrev pub invariant-loop-i : goal.invariant-loop-i
invariant-loop-i l = record {
  within : l.next ≤ length l.keys;
  same : bytes_eq (drop l.next l.keys) (key_places l.i (map column_as (drop l.i l.known))) ≡ bytes_eq l.keys (key_places 0 (map column_as l.known));
}
