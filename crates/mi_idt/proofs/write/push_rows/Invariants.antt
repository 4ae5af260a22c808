use Rattle.std.proofs.Common.{◌≡◌, ◌++◌, drop, map}
use Rattle.mi_idt.specs.Fronts.{row_text}
use Rattle.mi_idt.specs.Written.{with_ends}
use Rattle.mi_idt.proofs.write.push_rows.Given as goal

abbrev pub invariant-loop-row : goal.invariant-loop-row
invariant-loop-row l = l.out.items ++ with_ends (map (row_text l.columns) (drop l.row-index l.rows)) ≡ l.fn.out.items ++ with_ends (map (row_text l.columns) l.rows)
