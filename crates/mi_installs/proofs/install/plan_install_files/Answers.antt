-- Over the placed rows.
use Rattle.std.proofs.Common.{List, map, sym, ap, subst, ◌∙◌}
use Rattle.std.specs.Prelude.{Ok, Err, Vec}
use Rattle.std.specs.declared.alloc.Global.{Global}
use Rattle.mi_model.specs.InstallFiles.{install_files}
use Rattle.mi_installs.specs.declared.error.InstallError.{InstallError}
use Rattle.mi_installs.specs.declared.placed.Placed.{Placed}
use Rattle.mi_installs.specs.Installs.{InstallPhase}
use Rattle.mi_installs.specs.Placings.{as_placed}
use Rattle.mi_installs.proofs.PhaseLemmas.{phase_path, reads_not, on_then}
use Rattle.mi_installs.proofs.install.plan_install_files.Goals as goal

pub install_placed-requires-clause-placed : goal.install_placed-requires-clause-placed
install_placed-requires-clause-placed g c = λ w asked. c.in-Ok.ensures.placed w asked ∙ ap (λ (ps : List Placed). Ok (map as_placed ps)) (sym c.as_slice.ensures.value)

pub returns-in-Ok-clause-there : goal.returns-in-Ok-clause-there
returns-in-Ok-clause-there g c = λ vt st there. on_then _ _ c.install_placed.result there (c.install_placed.ensures.there st)

pub returns-in-Err-clause-phase : goal.returns-in-Err-clause-phase
returns-in-Err-clause-phase g c = λ w asked vt st over at there.
    let held = (g.V.Volume.state c.args.vol.now).held in
    let files = g.S.Source.files c.args.src.now in
    subst (λ (e : InstallError). InstallPhase held files c.args.plan.now c.args.plan.now {A = Unit {0}} install_files w (Err e)) (sym c.planned.ensures)
    (phase_path held files c.args.plan.now c.args.plan.now w (Unit {0}) (λ (placed : Vec Placed Global). map as_placed placed.items) c.in-Err.error (c.in-Err.ensures.placed w asked))

pub returns-in-Err-clause-reads : goal.returns-in-Err-clause-reads
returns-in-Err-clause-reads g c = reads_not g.V.Volume.told (g.V.Volume.state c.args.vol.now) (g.S.Source.files c.args.src.now) (g.S.Source.faults c.args.src.now)
