use Rattle.std.proofs.Common.{◌≡◌, drop}
use Rattle.std.specs.List.{list_all}
use Rattle.mi_regval.proofs.ListLemmas.{keeps}
use Rattle.mi_regval.proofs.items.none_among.Given as goal

abbrev pub invariant-loop-item : goal.invariant-loop-item
invariant-loop-item l = list_all (keeps l.fn.added) (drop l.item-index l.items) ≡ list_all (keeps l.fn.added) l.items
