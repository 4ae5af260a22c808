use Rattle.std.proofs.Common.{sym, ap, ◌∙◌}
use Rattle.mi_volume.proofs.OrderLemmas.{next_in_range, first_key}
use Rattle.mi_volume.proofs.held.name_above.Goals as goal

pub returns-in-Some : goal.returns-in-Some
returns-in-Some c = sym (next_in_range c.args.held.now.entries c.range.result c.args.after.now c.range.ensures.ordered (c.range.ensures.between tt) ∙ ap first_key c.in-Some.ensures.steps)

pub returns-in-None : goal.returns-in-None
returns-in-None c = sym (next_in_range c.args.held.now.entries c.range.result c.args.after.now c.range.ensures.ordered (c.range.ensures.between tt) ∙ ap first_key c.in-None.ensures.steps.0)
