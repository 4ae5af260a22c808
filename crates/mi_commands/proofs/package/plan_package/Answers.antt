use Rattle.std.proofs.Common.{refl}
use Rattle.mi_volume.specs.State as volume
use Rattle.mi_source.specs.Counts.{Rose}
use Rattle.mi_image.proofs.LookLemmas.{looks_first}
use Rattle.mi_commands.proofs.PackageLemmas.{walks_by, stopped_by}
use Rattle.mi_commands.proofs.package.plan_package.Goals as goal

pub returns-in-Ok-clause-walks : goal.returns-in-Ok-clause-walks
returns-in-Ok-clause-walks g c held files x is =
    let ready = c.in-Ok.ensures held files x (record { rows = is.rows; former = is.former; folder = is.folder; words = is.words; moment = refl }) in
    walks_by c.args.asked.now.recorded x (volume.Rose (g.V.Volume.state c.args.vol.now) (g.V.Volume.state c.walk_over.new.vol)) (Rose (g.S.Source.faults c.args.src.now) (g.S.Source.faults c.walk_over.new.src)) c.walk_over.result ready.0 c.walk_over.ensures.stopped

pub returns-in-Ok-clause-plan : goal.returns-in-Ok-clause-plan
returns-in-Ok-clause-plan g c x v s handed contents is =
    let ready = c.in-Ok.ensures (g.V.Volume.state c.args.vol.now).held (g.S.Source.files c.args.src.now) x (record { rows = is.rows; former = is.former; folder = is.folder; words = is.words; moment = refl }) in
    c.walk_over.ensures.plan x v s handed contents (record { rows = is.rows; props = ready.1; former = is.former; now = is.moment }) is.folder

pub returns-in-Err-clause-walks : goal.returns-in-Err-clause-walks
returns-in-Err-clause-walks g c held files x is =
    stopped_by c.args.asked.now.recorded x (volume.Rose (g.V.Volume.state c.args.vol.now) (g.V.Volume.state c.args.vol.now)) (Rose (g.S.Source.faults c.args.src.now) (g.S.Source.faults c.args.src.now)) c.in-Err.stop
    (c.in-Err.ensures held files x (record { rows = is.rows; former = is.former; folder = is.folder; words = is.words; moment = refl }))

pub returns-in-Err-clause-looks : goal.returns-in-Err-clause-looks
returns-in-Err-clause-looks g c = λ v. looks_first (g.V.Volume.state c.args.vol.now)
