use Rattle.std.proofs.Common.{◌≡◌, map}
use Rattle.std.specs.Prelude.{filter}
use Rattle.mi_wishes.specs.Lists.{is_item}
use Rattle.mi_wishes.proofs.list.items_of.Given as goal

abbrev pub invariant-loop-part : goal.invariant-loop-part
invariant-loop-part l = l.items.items ≡ filter is_item (map (λ b. b.now) l.yielded)
