use Rattle.mi_plan.proofs.DeviceLemmas.{asks_none}
use Rattle.mi_plan.proofs.planning.walked.Goals as goal

pub returns-in-Err-clause-asks : goal.returns-in-Err-clause-asks
returns-in-Err-clause-asks g c = asks_none g.V.Volume.told (g.V.Volume.state c.args.vol.now) (g.S.Source.files c.args.src.now) (g.S.Source.faults c.args.src.now)
