use Rattle.std.proofs.Common.{◌≡◌, ◌+◌, drop, map}
use Rattle.mi_idt.specs.Means.{column_value}
use Rattle.mi_idt.specs.Rows.{fields_fault}
use Rattle.mi_idt.proofs.rows.check_fields.Given as goal

abbrev pub invariant-loop-i : goal.invariant-loop-i
invariant-loop-i l = fields_fault l.row (l.i + 1) (map column_value (drop l.i l.columns)) (map (λ b. b.now) (drop l.i l.fields)) ≡ fields_fault l.row 1 (map column_value l.columns) (map (λ b. b.now) l.fields)
