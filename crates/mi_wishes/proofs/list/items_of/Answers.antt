-- The parts of a text that `split` gives.
use Rattle.std.proofs.Common.{◌∙◌, lit<, ap}
use Rattle.std.specs.Prelude.{filter}
use Rattle.std.proofs.lemmas.Iterator.Consumers.{YieldsList-end}
use Rattle.std.proofs.lemmas.Iterator.Splits.{YieldsList-from_str_split}
use Rattle.mi_wishes.specs.Lists.{is_item}
use Rattle.mi_wishes.proofs.list.items_of.Goals as goal

pub returns : goal.returns
returns c =
    let parts = YieldsList-end (YieldsList-from_str_split 44 c.args.text.now (lit< tt) (cc) (cc) (cc)) c.loop-part.yielded _ c.loop-part.yielded_by _ _ c.in-None.is c.next.ensures.steps in
    c.loop-part.invariant ∙ ap (filter is_item) parts.0
