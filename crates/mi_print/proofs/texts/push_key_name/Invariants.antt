use Rattle.std.proofs.Common.{◌≡◌, ◌++◌, drop}
use Rattle.std.specs.List.{flat_map}
use Rattle.mi_print.specs.Texts.{escaped_byte, is_escaped_in_key}
use Rattle.mi_print.proofs.texts.push_key_name.Given as goal

abbrev pub invariant-loop-byte : goal.invariant-loop-byte
invariant-loop-byte l = l.out.items ++ flat_map (escaped_byte is_escaped_in_key) (drop l.byte-index l.byte-items) ≡ l.fn.out.items ++ flat_map (escaped_byte is_escaped_in_key) l.byte-items
