use Rattle.std.proofs.Common.{subst, sym, ap}
use Rattle.std.specs.Prelude.{reverse}
use Rattle.mi_image.specs.Items.{AreRight, items_of}
use Rattle.mi_image.proofs.ItemLemmas.{no_items, none_right}
use Rattle.mi_image.proofs.image.Gathered.new.Goals as goal

pub invariant_of-result : goal.invariant_of-result
invariant_of-result c = subst (λ es. AreRight (items_of (reverse es))) (sym c.new.ensures.items) none_right

pub returns : goal.returns
returns c = no_items (reverse c.new.result.items) (ap reverse c.new.ensures.items)
