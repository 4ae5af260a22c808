use Rattle.std.proofs.Common.{sym}
use Rattle.mi_steps.proofs.prune.held_name.Goals as goal

pub name_of_item-requires : goal.name_of_item-requires
name_of_item-requires c = (c.in-Some.ensures.right c.args.name.now c.in-Some.item.now (sym c.in-Some.ensures.value)).right
