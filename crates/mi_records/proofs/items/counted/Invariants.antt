use Rattle.std.proofs.Common.{◌≡◌, take}
use Rattle.std.specs.Prelude.{count_by}
use Rattle.mi_text.specs.Maps.{Name, same_name}
use Rattle.mi_records.specs.Removing.{count_at}
use Rattle.mi_records.proofs.items.counted.Given as goal

abbrev pub invariant-loop-item : goal.invariant-loop-item
invariant-loop-item l = (q : Name) → count_at l.counts q ≡ count_by (same_name q) (take l.item-index l.items)
