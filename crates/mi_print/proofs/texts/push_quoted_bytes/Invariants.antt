use Rattle.std.proofs.Common.{◌≡◌, ◌++◌, drop}
use Rattle.std.specs.List.{flat_map}
use Rattle.mi_print.specs.Texts.{quoted_byte}
use Rattle.mi_print.proofs.texts.push_quoted_bytes.Given as goal

abbrev pub invariant-loop-byte : goal.invariant-loop-byte
invariant-loop-byte l = l.out.items ++ flat_map quoted_byte (drop l.byte-index l.byte-items) ≡ l.fn.out.items ++ flat_map quoted_byte l.byte-items
