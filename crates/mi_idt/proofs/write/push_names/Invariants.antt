use Rattle.std.proofs.Common.{◌≡◌, ◌++◌, drop, map}
use Rattle.mi_idt.specs.Texts.{tabbed}
use Rattle.mi_idt.proofs.write.push_names.Given as goal

abbrev pub invariant-loop-i : goal.invariant-loop-i
invariant-loop-i l = l.out.items ++ tabbed l.i (map (λ c. c.name.now) (drop l.i l.columns)) ≡ l.fn.out.items ++ tabbed 0 (map (λ c. c.name.now) l.columns)
