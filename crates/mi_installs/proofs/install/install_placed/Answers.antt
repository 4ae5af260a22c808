-- The phase of rows that are apart, or its refusal.
use Rattle.std.proofs.Common.{map}
use Rattle.mi_installs.specs.Placings.{as_placed}
use Rattle.mi_installs.proofs.PhaseLemmas.{phase_done, phase_same}
use Rattle.mi_installs.proofs.install.install_placed.Goals as goal

pub returns-in-Ok-None-clause-phase : goal.returns-in-Ok-None-clause-phase
returns-in-Ok-None-clause-phase g c = λ w asked vt st over at there.
    phase_done (g.V.Volume.state c.args.vol.now).held (g.S.Source.files c.args.src.now) c.args.plan.now c.install_apart.new.plan w (map as_placed c.args.rows.now) c.install_apart.result (c.requires.placed w asked) (rw c.in-Ok-None.field-0-is at c.in-Ok-None.ensures) at
    (c.install_apart.ensures.rows w asked vt st over at there)

pub returns-in-Ok-Some-clause-phase : goal.returns-in-Ok-Some-clause-phase
returns-in-Ok-Some-clause-phase g c = λ w asked vt st over at there.
    phase_same (g.V.Volume.state c.args.vol.now).held (g.S.Source.files c.args.src.now) c.args.plan.now c.args.plan.now w (Unit {0}) (map as_placed c.args.rows.now) c.in-Ok-Some.fault (c.requires.placed w asked) (rw c.in-Ok-Some.field-0-is at c.in-Ok-Some.ensures)
