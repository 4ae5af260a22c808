use Rattle.std.proofs.Common.{ap, ◌∙◌}
use Rattle.mi_image.specs.Items.{machine_over}
use Rattle.mi_world.proofs.CostLemmas.{costed_stays}
use Rattle.mi_world.proofs.world.World.cost.Goals as goal

pub returns-clause-cost : goal.returns-clause-cost
returns-clause-cost c = λ held files g is former at.
    c.cost.ensures.cost held files g c.args.self.now.plan is (ap (machine_over held files) (c.image.ensures ∙ c.requires.former) ∙ former) at

pub returns-clause-seen : goal.returns-clause-seen
returns-clause-seen c = λ g is. costed_stays g c.args.self.now.seen c.cost.new.self c.cost.result is c.cost.ensures.ok
