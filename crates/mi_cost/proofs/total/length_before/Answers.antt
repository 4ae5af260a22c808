use Rattle.std.proofs.Common.{sym}
use Rattle.mi_cost.proofs.total.length_before.Goals as goal

pub item_length-requires : goal.item_length-requires
item_length-requires c = (c.in-Some.ensures.right c.args.name.now c.in-Some.item.now (sym c.in-Some.ensures.value)).right
