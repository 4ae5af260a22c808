use Rattle.std.proofs.Common.{sym, ap, subst, ◌∙◌}
use Rattle.mi_volume.specs.Maps.{Map}
use Rattle.mi_undo.specs.Area.{CanGoBack}
use Rattle.mi_base.specs.declared.answers.Kind.{Kind}
use Rattle.mi_carry.specs.Falls.{Falls, AnswersStop, fell}
use Rattle.mi_carry.specs.Rooms.{FitsBack}
use Rattle.mi_carry.proofs.FallLemmas.{fallen, answers}
use Rattle.mi_carry.proofs.RoomLemmas.{back_fits}
use Rattle.mi_carry.proofs.fall.fall_back.Goals as goal

pub returns-clause-falls : goal.returns-clause-falls
returns-clause-falls g c = λ told F back.
    subst (λ (k : Kind). Falls (g.V.Volume.state c.args.area.vol.now) (g.V.Volume.state c.back-back.new.self.0) F k) (sym c.answer_back.ensures)
    (fallen _ _ F c.back-back.result c.args.why c.args.first c.faults-again.result (c.back-back.ensures.back told F back))

pub returns-clause-answers : goal.returns-clause-answers
returns-clause-answers g c =
    let t = g.V.Volume.state c.args.area.vol.now in
    let room : Type 0 = g.V.Volume.told → (F : Map) × CanGoBack t c.args.area.kept F × FitsBack t F in
    subst (λ (k : Kind). AnswersStop room c.args.why c.args.first t.faults (g.V.Volume.state c.back-back.new.self.0).faults k)
    (sym (c.answer_back.ensures ∙ ap (fell c.back-back.result c.args.why c.args.first) c.faults-again.ensures))
    (answers room c.back-back.result c.args.why c.args.first t (g.V.Volume.state c.back-back.new.self.0) c.back-back.ensures.passes.faults c.back-back.ensures.fault
    (λ is there. let told = (c.back-back.ensures.full is).0 in let start = there told in back_fits t start.0 start.2 (c.back-back.ensures.exceeds told start.0 start.1 is)))

pub returns-clause-recovers : goal.returns-clause-recovers
returns-clause-recovers g c = λ told F back fits. c.back-back.ensures.room told F fits.n back fits.takes fits.fits
