use Rattle.std.proofs.Common.{◌≡◌, ◌+◌, ◌++◌, drop, map, vec_len}
use Rattle.mi_idt.specs.Columns.{definitions_fault, columns_in}
use Rattle.mi_idt.specs.Means.{column_value}
use Rattle.mi_idt.proofs.columns.read_definitions.Given as goal

abbrev pub invariant-loop-i : goal.invariant-loop-i
invariant-loop-i l = record {
  as_many : vec_len l.columns ≡ l.i;
  faults : definitions_fault (l.i + 1) (map (λ b. b.now) (drop l.i l.names)) (map (λ b. b.now) (drop l.i l.definitions)) ≡ definitions_fault 1 (map (λ b. b.now) l.names) (map (λ b. b.now) l.definitions);
  read : map column_value l.columns.items ++ columns_in (map (λ b. b.now) (drop l.i l.names)) (map (λ b. b.now) (drop l.i l.definitions)) ≡ columns_in (map (λ b. b.now) l.names) (map (λ b. b.now) l.definitions);
}
