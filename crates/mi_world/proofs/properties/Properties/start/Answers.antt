use Rattle.std.proofs.Common.{arith}
use Rattle.mi_world.proofs.BoundLemmas.{none_first}
use Rattle.mi_world.proofs.properties.Properties.start.Goals as goal

pub invariant_of-result : goal.invariant_of-result
invariant_of-result c = λ name long.
    none_first c.args.system.now c.args.words.now c.args.table.now c.in_ok-props.props name (c.in_ok-props.ensures.precedence name)
    (c.bound_of.ensures name (omega arith)) (c.bound_of-2.ensures name (omega arith)) (c.bound_of-3.ensures name (omega arith))
