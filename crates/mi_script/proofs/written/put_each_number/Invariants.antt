use Rattle.std.proofs.Common.{◌≡◌, ◌++◌, drop}
use Rattle.std.specs.List.{flat_map}
use Rattle.std.specs.Int.{w16, to_be_bytes}
use Rattle.mi_script.proofs.written.put_each_number.Given as goal

-- with those that are left, what is written is what all write
abbrev pub invariant-loop-number : goal.invariant-loop-number
invariant-loop-number l = l.out.items ++ flat_map (to_be_bytes w16) (drop l.number-index l.items) ≡ l.fn.out.items ++ flat_map (to_be_bytes w16) l.items
