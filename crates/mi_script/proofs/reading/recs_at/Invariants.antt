use Rattle.std.proofs.Common.{◌-◌, None}
use Rattle.mi_base.specs.Reading.{items_at}
use Rattle.mi_base.proofs.LoopLemmas.{Reads}
use Rattle.mi_script.specs.Reading.{in_any_order, rec_at}
use Rattle.mi_script.proofs.reading.recs_at.Given as goal

-- what is read of the rest, behind the items so far, is what is read of all
abbrev pub invariant-loop : goal.invariant-loop
invariant-loop l = Reads rec_at in_any_order l.recs.items (l.count - l.counter) l.rest (items_at rec_at in_any_order None l.count l.bytes)
