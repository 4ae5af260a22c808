use Rattle.std.proofs.Common.{◌≡◌, ◌++◌, drop, map}
use Rattle.mi_idt.specs.Texts.{tabbed}
use Rattle.mi_idt.specs.Written.{written_cell}
use Rattle.mi_gen.specs.Fields.{cell}
use Rattle.mi_gen.proofs.cells.push_fields.Given as goal

abbrev pub invariant-loop-place : goal.invariant-loop-place
invariant-loop-place l = l.out.items ++ tabbed l.place (map written_cell (map cell (drop l.place l.fields))) ≡ l.fn.out.items ++ tabbed 0 (map written_cell (map cell l.fields))
