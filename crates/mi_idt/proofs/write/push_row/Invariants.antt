use Rattle.std.proofs.Common.{◌≡◌, ◌++◌, drop, map}
use Rattle.mi_idt.specs.Means.{column_value}
use Rattle.mi_idt.specs.Rows.{cells_of}
use Rattle.mi_idt.specs.Texts.{tabbed}
use Rattle.mi_idt.specs.Written.{written_cell}
use Rattle.mi_idt.proofs.write.push_row.Given as goal

abbrev pub invariant-loop-i : goal.invariant-loop-i
invariant-loop-i l = l.out.items ++ tabbed l.i (map written_cell (cells_of (map column_value (drop l.i l.columns)) (map (λ b. b.now) (drop l.i l.fields)))) ≡ l.fn.out.items ++ tabbed 0 (map written_cell (cells_of (map column_value l.columns) (map (λ b. b.now) l.fields)))
