use Rattle.std.proofs.Common.{◌≡◌, ℕ, ◌+◌, Option, sym, ap, subst, ◌∙◌, refl}
use Rattle.mi_volume.specs.Maps.{Fits, size}
use Rattle.mi_undo.specs.Area.{notes_in}
use Rattle.mi_undo.specs.declared.fault.BackFault.TheVariants as back
use Rattle.mi_undo.proofs.FaultLemmas.{on_err, back_was_full}
use Rattle.mi_undo.proofs.OverLemmas.{stuck_exceeds, area_within_all, fits_less}
use Rattle.mi_undo.proofs.PutLemmas.{not_gone, byte_after, area_after, area_within, gone_back, put_room, back_room}
use Rattle.mi_undo.proofs.back.back_area.Goals as goal

pub shut_area-requires : goal.shut_area-requires
shut_area-requires g c = λ told.
    let s = g.V.Volume.state c.args.vol.now in let t = g.V.Volume.state c.put_back.new.vol in
    let can = c.requires told in
    byte_after s c.args.kept.now can.0 can.1 t c.put_back.result (c.put_back.ensures.back told can.0 can.1.notes (ap (notes_in s.held) c.deref.ensures.value ∙ can.1.placed) can.1.keeps can.1.are_new)

pub returns-in-Err-clause-back : goal.returns-in-Err-clause-back
returns-in-Err-clause-back g c = λ told F can.
    let s = g.V.Volume.state c.args.vol.now in let t = g.V.Volume.state c.put_back.new.vol in
    not_gone s c.args.kept.now F can t c.put_back.result _ (c.put_back.ensures.back told F can.notes (ap (notes_in s.held) c.deref.ensures.value ∙ can.placed) can.keeps can.are_new) refl

pub returns-in-Err-clause-exceeds : goal.returns-in-Err-clause-exceeds
returns-in-Err-clause-exceeds g c = λ told F can full.
    let s = g.V.Volume.state c.args.vol.now in
    let answer : c.from.result ≡ back.Full = cc in
    let stuck = c.in-Err.ensures.stuck told F can.notes (ap (notes_in s.held) c.deref.ensures.value ∙ can.placed) can.keeps can.are_new (back_was_full c.in-Err.stuck.fault (sym c.from.ensures ∙ answer)) in
    stuck_exceeds s F can.notes stuck.0 (c.in-Err.stuck.at + 1) can.keeps stuck.1.0 stuck.1.1.passes

pub returns-clause-fits : goal.returns-clause-fits
returns-clause-fits g c = λ told F can.
    let s = g.V.Volume.state c.args.vol.now in let t = g.V.Volume.state c.put_back.new.vol in
    let done = c.in_default.ensures.back told F can.notes (ap (notes_in s.held) c.deref.ensures.value ∙ can.placed) can.keeps can.are_new in
    fits_less s.capacity _ _ (area_within_all s.held t.held F can.keeps.nothing_inside done.inside done.back)
    (subst (λ (k : Option ℕ). Fits k (size t.held)) c.put_back.ensures.passes.capacity (c.in_default.ensures.fits told))

pub returns-clause-back : goal.returns-clause-back
returns-clause-back g c = λ told F can.
    let s = g.V.Volume.state c.args.vol.now in let t = g.V.Volume.state c.put_back.new.vol in let u = g.V.Volume.state c.shut_area.new.vol in
    let puts = c.put_back.ensures.back told F can.notes (ap (notes_in s.held) c.deref.ensures.value ∙ can.placed) can.keeps can.are_new in
    let done = c.in_default.ensures.back told F can.notes (ap (notes_in s.held) c.deref.ensures.value ∙ can.placed) can.keeps can.are_new in
    gone_back s c.args.kept.now F can t c.put_back.result puts c.put_back.ensures.passes u c.shut_area.result
    (c.shut_area.ensures.shuts told F can.notes puts.keeps done.clean done.back can.marker (area_within s c.args.kept.now F can t) (area_after s c.args.kept.now F can t c.put_back.result puts))
    (λ fails. on_err _ c.shut_area.result fails c.shut_area.ensures.fault)

pub returns-in-Err-clause-room : goal.returns-in-Err-clause-room
returns-in-Err-clause-room g c = λ told F n can takes.
    let s = g.V.Volume.state c.args.vol.now in let t = g.V.Volume.state c.put_back.new.vol in
    put_room s c.args.kept.now F can t n takes.left c.put_back.result (c.put_back.ensures.back told F can.notes (ap (notes_in s.held) c.deref.ensures.value ∙ can.placed) can.keeps can.are_new)

pub returns-clause-room : goal.returns-clause-room
returns-clause-room g c = λ told F n can takes.
    let s = g.V.Volume.state c.args.vol.now in let t = g.V.Volume.state c.put_back.new.vol in let u = g.V.Volume.state c.shut_area.new.vol in
    let puts = c.put_back.ensures.back told F can.notes (ap (notes_in s.held) c.deref.ensures.value ∙ can.placed) can.keeps can.are_new in
    let done = c.in_default.ensures.back told F can.notes (ap (notes_in s.held) c.deref.ensures.value ∙ can.placed) can.keeps can.are_new in
    back_room s c.args.kept.now F can t n takes.left c.put_back.result puts u c.shut_area.result
    (c.shut_area.ensures.shuts told F can.notes puts.keeps done.clean done.back can.marker (area_within s c.args.kept.now F can t) (area_after s c.args.kept.now F can t c.put_back.result puts))
