use Rattle.mi_cond.proofs.Values.{negated_next}
use Rattle.mi_cond.proofs.evaluate.negated.Goals as goal

pub loop-preserved : goal.loop-preserved
loop-preserved c = negated_next c.args.nots c.loop.counter c.loop.value (_) c.loop-test.true c.loop.invariant
