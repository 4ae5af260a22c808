use Rattle.std.proofs.Common.{◌≡◌, ◌&&◌, drop}
use Rattle.mi_idt.specs.Fields.{is_ascii}
use Rattle.mi_idt.proofs.lines.all_ascii.Given as goal

abbrev pub invariant-loop-byte : goal.invariant-loop-byte
invariant-loop-byte l = (l.ascii && is_ascii (drop l.byte-index l.line)) ≡ is_ascii l.line
