-- A row that is begun without a step.
use Rattle.mi_seq.proofs.WalkLemmas.{halted_turn}
use Rattle.mi_seq.proofs.walk.Walk.begin.Goals as goal

pub returns-in-Err : goal.returns-in-Err
returns-in-Err g c = halted_turn c.args.loaded.now (g.E.Env.lookups c.args.env.now) c.args.self.now c.halt.new.self c.args.next c.in-Err.stop c.halt.result c.requires.next c.in-Err.ensures c.halt.ensures
