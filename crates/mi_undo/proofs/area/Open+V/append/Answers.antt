use Rattle.std.proofs.Common.{◌++◌, Some, refl, ap, ◌∙◌}
use Rattle.std.specs.FinMap.{get}
use Rattle.mi_volume.specs.Maps.{bytes_or_none}
use Rattle.mi_undo.specs.Stands.{outside}
use Rattle.mi_undo.proofs.FreshLemmas.{contains_outside}
use Rattle.mi_undo.proofs.OutsideLemmas.{outside_set_to}
use Rattle.mi_undo.proofs.ChangeLemmas.{works_changed}
use Rattle.mi_undo.proofs.AreaRoom.{room_changed}
use Rattle.mi_undo.proofs.FaultLemmas.{put_stays}
use Rattle.mi_undo.proofs.area.Open+V.append.Goals as goal

pub returns-in_err-append-clause-changes : goal.returns-in_err-append-clause-changes
returns-in_err-append-clause-changes g c = λ told F w.
    let call = c.append.ensures.writes told in
    works_changed _ _ _ F c.args.name.now w c.requires.noted (record { goes = c.append.ensures.moments; others = call.others; dirty = call.dirty })

pub returns-clause-changes : goal.returns-clause-changes
returns-clause-changes g c = λ told F w.
    let call = c.append.ensures.writes told in
    works_changed _ _ _ F c.args.name.now w c.requires.noted (record { goes = c.append.ensures.moments; others = call.others; dirty = call.dirty })

pub returns-in_err-append-clause-stays : goal.returns-in_err-append-clause-stays
returns-in_err-append-clause-stays g c = λ told.
    put_stays _ _ _ _ c.from_residual.result c.in_err-append.field-0.0 c.from_residual.ensures.1 (c.in_err-append.ensures.writes told)

pub returns-clause-fits : goal.returns-clause-fits
returns-clause-fits g c = λ told. (c.in_ok-append.ensures.writes told).fits

pub returns-clause-working : goal.returns-clause-working
returns-clause-working g c = record { working = refl; knows = c.requires.working.knows; outside = c.requires.working.outside }

pub returns-clause-map : goal.returns-clause-map
returns-clause-map g c = λ told. ap outside (c.in_ok-append.ensures.writes told).ok ∙ outside_set_to (g.V.Volume.state c.args.self.now.vol.now).held c.args.name.now (Some (bytes_or_none (get (g.V.Volume.state c.args.self.now.vol.now).held c.args.name.now) ++ c.args.bytes.now)) (contains_outside _ c.args.name.now c.requires.working.outside c.requires.noted)

pub returns-in_err-append-clause-room : goal.returns-in_err-append-clause-room
returns-in_err-append-clause-room g c = λ told F n w takes.
    let call = c.append.ensures.writes told in
    room_changed _ _ _ F c.args.name.now n w c.requires.noted (record { goes = c.append.ensures.moments; others = call.others; dirty = call.dirty }) takes

pub returns-clause-room : goal.returns-clause-room
returns-clause-room g c = λ told F n w takes.
    let call = c.append.ensures.writes told in
    room_changed _ _ _ F c.args.name.now n w c.requires.noted (record { goes = c.append.ensures.moments; others = call.others; dirty = call.dirty }) takes
