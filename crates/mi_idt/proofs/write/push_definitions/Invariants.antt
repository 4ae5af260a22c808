use Rattle.std.proofs.Common.{◌≡◌, ◌++◌, drop, map}
use Rattle.mi_idt.specs.Means.{column_value}
use Rattle.mi_idt.specs.Written.{written_definition}
use Rattle.mi_idt.specs.Texts.{tabbed}
use Rattle.mi_idt.proofs.write.push_definitions.Given as goal

abbrev pub invariant-loop-i : goal.invariant-loop-i
invariant-loop-i l = l.out.items ++ tabbed l.i (map (λ c. written_definition (column_value c)) (drop l.i l.columns)) ≡ l.fn.out.items ++ tabbed 0 (map (λ c. written_definition (column_value c)) l.columns)
