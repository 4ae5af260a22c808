use Rattle.std.proofs.Common.{◌≡◌, map, take}
use Rattle.mi_idt.specs.Means.{column_value}
use Rattle.mi_idt.specs.Rows.{cells_of}
use Rattle.mi_idt.specs.Written.{written_cell}
use Rattle.mi_idt.proofs.Basics.{shown}
use Rattle.mi_idt.proofs.fronts.front_stands.Given as goal

abbrev pub invariant-loop-i : goal.invariant-loop-i
invariant-loop-i l = take l.i (shown l.fields) ≡ map written_cell (take l.i (cells_of (map column_value l.columns) (shown l.fields)))
