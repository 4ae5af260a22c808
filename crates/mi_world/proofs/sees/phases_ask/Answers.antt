use Rattle.mi_world.proofs.AskLemmas.{asks}
use Rattle.mi_world.proofs.sees.phases_ask.Goals as goal

pub returns : goal.returns
returns c = λ held files g is costed. asks held files g c.args.plan.now c.args.seen.now is costed
