use Rattle.std.proofs.Common.{◌-◌, None}
use Rattle.std.specs.Int.{w16}
use Rattle.mi_base.specs.Reading.{number_at, items_at}
use Rattle.mi_base.proofs.LoopLemmas.{Reads}
use Rattle.mi_script.specs.Reading.{in_any_order}
use Rattle.mi_script.proofs.reading.many_numbers_at.Given as goal

-- what is read of the rest, behind the items so far, is what is read of all
abbrev pub invariant-loop : goal.invariant-loop
invariant-loop l = Reads (number_at w16) in_any_order l.items.items (l.count - l.counter) l.rest (items_at (number_at w16) in_any_order None l.count l.bytes)
