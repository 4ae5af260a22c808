use Rattle.std.proofs.Common.{sym, ◌∙◌}
use Rattle.mi_volume.proofs.OrderLemmas.{next_first, next_nothing}
use Rattle.mi_volume.proofs.held.first_name.Goals as goal

pub returns-in-Some : goal.returns-in-Some
returns-in-Some c = sym (next_first c.args.held.now.entries c.in-Some.name.now c.next.new.self c.keys.ensures.ordered (sym c.keys.ensures.rest ∙ c.in-Some.ensures.steps))

pub returns-in-None : goal.returns-in-None
returns-in-None c = sym (next_nothing c.args.held.now.entries c.keys.ensures.ordered (sym c.keys.ensures.rest ∙ c.in-None.ensures.steps.0))
