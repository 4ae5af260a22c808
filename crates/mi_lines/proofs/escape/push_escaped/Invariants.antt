use Rattle.std.proofs.Common.{◌≡◌, ◌++◌, drop}
use Rattle.mi_lines.specs.Escapes.{escaped}
use Rattle.mi_lines.proofs.escape.push_escaped.Given as goal

abbrev pub invariant-loop-byte : goal.invariant-loop-byte
invariant-loop-byte l = l.out.items ++ escaped (drop l.byte-index l.bytes) ≡ l.fn.out.items ++ escaped l.bytes
