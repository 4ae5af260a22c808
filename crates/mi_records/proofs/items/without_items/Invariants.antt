use Rattle.std.proofs.Common.{◌≡◌, ◌++◌, drop}
use Rattle.mi_model.specs.ListItems.{without_items}
use Rattle.mi_records.specs.Removing.{count_at}
use Rattle.mi_records.proofs.ItemLemmas.{left}
use Rattle.mi_records.proofs.items.without_items.Given as goal

abbrev pub invariant-loop-item : goal.invariant-loop-item
invariant-loop-item l = l.rest ++ left (count_at l.counts) (drop l.item-index l.list) ≡ without_items l.items l.list
