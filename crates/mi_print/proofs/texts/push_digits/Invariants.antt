use Rattle.std.proofs.Common.{◌≡◌, ◌++◌, drop}
use Rattle.std.specs.List.{flat_map}
use Rattle.mi_print.specs.Texts.{two_digits}
use Rattle.mi_print.proofs.texts.push_digits.Given as goal

abbrev pub invariant-loop-byte : goal.invariant-loop-byte
invariant-loop-byte l = l.out.items ++ flat_map two_digits (drop l.byte-index l.bytes) ≡ l.fn.out.items ++ flat_map two_digits l.bytes
