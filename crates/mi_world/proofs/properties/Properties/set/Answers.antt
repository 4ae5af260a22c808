use Rattle.std.proofs.Common.{arith}
use Rattle.mi_world.proofs.BoundLemmas.{within_insert}
use Rattle.mi_world.proofs.properties.Properties.set.Goals as goal

pub invariant_of-self-2 : goal.invariant_of-self-2
invariant_of-self-2 c = within_insert c.self.inside.props c.set.new.self c.args.name.now c.args.value.now c.self.inside.bound c.max-self-inside.result c.in_ok-set.ensures.ok c.self.invariant (omega arith) (omega arith)
