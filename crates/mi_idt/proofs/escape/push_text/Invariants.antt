use Rattle.std.proofs.Common.{◌≡◌, ◌++◌, drop, map}
use Rattle.mi_idt.specs.Fields.{unescaped}
use Rattle.mi_idt.specs.Written.{escaped}
use Rattle.mi_idt.proofs.escape.push_text.Given as goal

abbrev pub invariant-loop-byte : goal.invariant-loop-byte
invariant-loop-byte l = l.out.items ++ map escaped (map unescaped (drop l.byte-index l.field)) ≡ l.fn.out.items ++ map escaped (map unescaped l.field)
