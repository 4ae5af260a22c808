use Rattle.std.proofs.Common.{◌≡◌, ◌++◌, drop, map}
use Rattle.mi_idt.specs.Written.{escaped}
use Rattle.mi_gen.proofs.cells.push_escaped.Given as goal

abbrev pub invariant-loop-byte : goal.invariant-loop-byte
invariant-loop-byte l = l.out.items ++ map escaped (drop l.byte-index l.text) ≡ l.fn.out.items ++ map escaped l.text
