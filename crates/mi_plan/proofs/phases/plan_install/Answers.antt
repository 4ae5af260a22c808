-- InstallFiles, by its plan call.
use Rattle.std.proofs.Common.{Err, refl, sym, subst}
use Rattle.mi_model.specs.InstallFiles.{install_files}
use Rattle.mi_world.specs.Seen.{world_over}
use Rattle.mi_plan.specs.declared.error.PhaseError.{PhaseError}
use Rattle.mi_plan.specs.Phases.{IsPlannedPhase}
use Rattle.mi_plan.proofs.InstallLemmas.{planned_as}
use Rattle.mi_plan.proofs.phases.plan_install.Goals as goal

pub returns-in-Err-clause-phase : goal.returns-in-Err-clause-phase
returns-in-Err-clause-phase g c = λ x v s handed of contents.
    let held = (g.V.Volume.state c.args.vol.now).held in
    let files = g.S.Source.files c.args.src.now in
    let w = world_over held files x c.args.seen.now c.args.plan.now in
    subst (λ (e : PhaseError). IsPlannedPhase {A = Unit {0}} held files c.args.plan.now c.plan_install_files.new.plan install_files w (Err e)) (sym c.install_error.ensures)
    (planned_as (Unit {0}) held files c.args.plan.now c.plan_install_files.new.plan install_files w c.in-Err.error (c.in-Err.ensures.phase w (c.phases_ask.ensures held files x of c.requires.costed) v s handed refl contents))
