use Rattle.std.proofs.Common.{◌≡◌, ◌&&◌, drop}
use Rattle.mi_idt.specs.Stands.{is_plain_line}
use Rattle.mi_idt.proofs.escape.is_plain_line.Given as goal

abbrev pub invariant-loop-byte : goal.invariant-loop-byte
invariant-loop-byte l = (l.plain && is_plain_line (drop l.byte-index l.line)) ≡ is_plain_line l.line
