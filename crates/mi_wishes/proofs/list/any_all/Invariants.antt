use Rattle.std.proofs.Common.{◌≡◌, drop}
use Rattle.std.specs.List.{list_any}
use Rattle.mi_model.specs.FeatureLists.{is_all}
use Rattle.mi_wishes.proofs.list.any_all.Given as goal

abbrev pub invariant-loop-item : goal.invariant-loop-item
invariant-loop-item l = list_any is_all (drop l.item-index l.items) ≡ list_any is_all l.items
