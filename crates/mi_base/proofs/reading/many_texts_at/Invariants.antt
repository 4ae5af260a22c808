use Rattle.std.proofs.Common.{◌-◌, None}
use Rattle.mi_base.specs.Reading.{text_at, text_follows, items_at}
use Rattle.mi_base.proofs.LoopLemmas.{Reads}
use Rattle.mi_base.proofs.reading.many_texts_at.Given as goal

-- what is read of the rest, behind the items so far, is what is read of all
abbrev pub invariant-loop : goal.invariant-loop
invariant-loop l = Reads text_at (text_follows l.order) l.items.items (l.count - l.counter) l.rest (items_at text_at (text_follows l.order) None l.count l.bytes)
