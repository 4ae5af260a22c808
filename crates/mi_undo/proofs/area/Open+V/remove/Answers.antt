use Rattle.std.proofs.Common.{None, refl, ap, ◌∙◌}
use Rattle.mi_undo.specs.Stands.{outside}
use Rattle.mi_undo.proofs.FreshLemmas.{contains_outside}
use Rattle.mi_undo.proofs.OutsideLemmas.{outside_set_to}
use Rattle.mi_undo.proofs.ChangeLemmas.{works_changed}
use Rattle.mi_undo.proofs.AreaRoom.{room_changed}
use Rattle.mi_undo.proofs.area.Open+V.remove.Goals as goal

pub returns-in_err-remove-clause-changes : goal.returns-in_err-remove-clause-changes
returns-in_err-remove-clause-changes g c = λ told F w.
    let call = c.remove.ensures.removes told in
    works_changed _ _ _ F c.args.name.now w c.requires.noted (record { goes = c.remove.ensures.moments; others = call.others; dirty = call.dirty })

pub returns-clause-changes : goal.returns-clause-changes
returns-clause-changes g c = λ told F w.
    let call = c.remove.ensures.removes told in
    works_changed _ _ _ F c.args.name.now w c.requires.noted (record { goes = c.remove.ensures.moments; others = call.others; dirty = call.dirty })

pub returns-clause-working : goal.returns-clause-working
returns-clause-working g c = record { working = refl; knows = c.requires.working.knows; outside = c.requires.working.outside }

pub returns-clause-map : goal.returns-clause-map
returns-clause-map g c = λ told. ap outside (c.in_ok-remove.ensures.removes told).ok ∙ outside_set_to (g.V.Volume.state c.args.self.now.vol.now).held c.args.name.now None (contains_outside _ c.args.name.now c.requires.working.outside c.requires.noted)

pub returns-in_err-remove-clause-room : goal.returns-in_err-remove-clause-room
returns-in_err-remove-clause-room g c = λ told F n w takes.
    let call = c.remove.ensures.removes told in
    room_changed _ _ _ F c.args.name.now n w c.requires.noted (record { goes = c.remove.ensures.moments; others = call.others; dirty = call.dirty }) takes

pub returns-clause-room : goal.returns-clause-room
returns-clause-room g c = λ told F n w takes.
    let call = c.remove.ensures.removes told in
    room_changed _ _ _ F c.args.name.now n w c.requires.noted (record { goes = c.remove.ensures.moments; others = call.others; dirty = call.dirty }) takes
