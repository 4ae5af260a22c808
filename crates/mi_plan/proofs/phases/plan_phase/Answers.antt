-- Nothing is asked of the devices.
use Rattle.mi_volume.specs.State as volume
use Rattle.mi_source.specs.Counts.{Rose}
use Rattle.mi_plan.proofs.DeviceLemmas.{asks_none, phase_fails_not, on_ok}
use Rattle.mi_plan.proofs.phases.plan_phase.Goals as goal

pub returns-clause-phase : goal.returns-clause-phase
returns-clause-phase g c = λ x v s handed of contents. c.plan_seen.ensures.phase (g.V.Volume.state c.args.vol.now).held (g.S.Source.files c.args.src.now) x of contents

pub returns-clause-lengths : goal.returns-clause-lengths
returns-clause-lengths g c = λ s have. c.plan_seen.ensures.lengths (g.S.Source.files c.args.src.now) have

pub returns-clause-asks : goal.returns-clause-asks
returns-clause-asks g c = asks_none g.V.Volume.told (g.V.Volume.state c.args.vol.now) (g.S.Source.files c.args.src.now) (g.S.Source.faults c.args.src.now)

pub returns-clause-fails : goal.returns-clause-fails
returns-clause-fails g c =
    phase_fails_not (volume.Rose (g.V.Volume.state c.args.vol.now) (g.V.Volume.state c.args.vol.now)) (Rose (g.S.Source.faults c.args.src.now) (g.S.Source.faults c.args.src.now)) c.plan_seen.result c.plan_seen.ensures.fails

pub returns-clause-there : goal.returns-clause-there
returns-clause-there g c = λ v s there. on_ok c.plan_seen.result (c.plan_seen.ensures.there (g.V.Volume.state c.args.vol.now).held (g.S.Source.files c.args.src.now) there)
