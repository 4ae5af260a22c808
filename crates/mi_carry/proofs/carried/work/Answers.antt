use Rattle.std.proofs.Common.{inl, inr, ℕ, Err, refl, sym, ap, subst, ◌∙◌, arith}
use Rattle.mi_volume.specs.Maps.{Map}
use Rattle.mi_undo.specs.Area.{CanGoBack, Works}
use Rattle.mi_model.specs.Causes.{BelowCount}
use Rattle.mi_carry.specs.Segments.{after_segments}
use Rattle.mi_carry.specs.Causes.{Differs}
use Rattle.mi_carry.specs.Falls.{AnswersStop}
use Rattle.mi_carry.specs.Halts.{Goes, IfBack, HaltCaused}
use Rattle.mi_carry.specs.Reached.{AtOne, HaltReached, HaltHasBegunCommit}
use Rattle.mi_carry.specs.Rooms.{HasRoom, IsRoomy, FitsBack}
use Rattle.mi_carry.proofs.CauseLemmas.{raised}
use Rattle.mi_carry.proofs.EndLemmas.{begun_caused, all_outside, lifted, declined_ends, done_ends, fell_ends, unknown_ends, stop_before, stop_room, answers_room, fell_caused}
use Rattle.mi_carry.proofs.RoomLemmas.{begun_roomy, walked_goes, fallen_goes, not_begun}
use Rattle.mi_carry.proofs.ReachLemmas.{not_none, among_first, fell_reached, begun_reached, none_begun, then_begun, back_begun}
use Rattle.mi_carry.proofs.carried.work.Goals as goal

pub returns-in-Err-clause-ends : goal.returns-in-Err-clause-ends
returns-in-Err-clause-ends g c = λ told.
    let s = g.V.Volume.state c.args.vol.now in
    rw (c.vol-1.given.1 (sym c.in-Err.ensures.handed_back), c.give_up.ensures)
    (record { after = _; made = λ is. refl; ends = declined_ends (Unit {0}) s (g.V.Volume.state c.in-Err.refused.vol.now) s.held _ c.args.refusal c.from.result refl (all_outside s (c.requires.free told)) (c.in-Err.ensures.declines told) })

pub carry_walk-requires-clause-works : goal.carry_walk-requires-clause-works
carry_walk-requires-clause-works g c = λ told. ((g.V.Volume.state c.args.vol.now).held, (c.in-Ok.ensures.opens told).works)

pub fall_back-requires-clause-can_go_back : goal.fall_back-requires-clause-can_go_back
fall_back-requires-clause-can_go_back g c = λ told.
    let F = (g.V.Volume.state c.args.vol.now).held in
    let goes = (c.carry_walk.ensures.goes told F (c.in-Ok.ensures.opens told).works).goes in
    (F, subst (λ r. IfBack r (CanGoBack (g.V.Volume.state c.carry_walk.new.area.vol.now) c.carry_walk.new.area.kept F)) (c.in-Err-Back.is ∙ ap Err c.in-Err-Back.field-0-is) goes.back)

pub returns-in-Ok-carry_walk-clause-ends : goal.returns-in-Ok-carry_walk-clause-ends
returns-in-Ok-carry_walk-clause-ends g c = λ told.
    let s = g.V.Volume.state c.args.vol.now in
    let opens = c.in-Ok.ensures.opens told in
    let one = c.carry_walk.ensures.goes told s.held opens.works in
    rw (c.vol-in-Ok-carry_walk-1.given.1 (sym (c.carry_walk.ensures.reference ∙ c.in-Ok.ensures.reference)), c.end.ensures)
    (record {
      after = one.after;
      made = λ is. one.made is ∙ ap (λ (m : Map). after_segments (g.S.Source.files c.args.src.now) m c.args.parts.now) (opens.outside ∙ all_outside s (c.requires.free told));
      ends = (done_ends (Unit {0}) s (g.V.Volume.state c.carry_walk.new.area.vol.now) c.carry_walk.new.area.kept s.held _ c.args.refusal _
          (subst (Goes (Unit {0}) s (g.V.Volume.state c.carry_walk.new.area.vol.now) c.carry_walk.new.area.kept s.held one.after c.args.refusal) c.in-Ok-carry_walk.is
          (lifted (Unit {0}) s (g.V.Volume.state c.in-Ok.area.vol.now) _ _ s.held one.after one.after c.args.refusal c.carry_walk.result c.in-Ok.ensures.passes.faults c.carry_walk.ensures.passes.faults refl opens.goes one.goes)));
    })

pub returns-in-Err-Back-clause-ends : goal.returns-in-Err-Back-clause-ends
returns-in-Err-Back-clause-ends g c = λ told.
    let s = g.V.Volume.state c.args.vol.now in
    let opens = c.in-Ok.ensures.opens told in
    let one = c.carry_walk.ensures.goes told s.held opens.works in
    let fails = c.in-Err-Back.is ∙ ap Err c.in-Err-Back.field-0-is in
    rw (c.vol-in-Err-Back-1.given.1 (sym (c.carry_walk.ensures.reference ∙ c.in-Ok.ensures.reference)))
    (record {
      after = one.after;
      made = λ is. one.made is ∙ ap (λ (m : Map). after_segments (g.S.Source.files c.args.src.now) m c.args.parts.now) (opens.outside ∙ all_outside s (c.requires.free told));
      ends = (fell_ends (Unit {0}) s (g.V.Volume.state c.carry_walk.new.area.vol.now) (g.V.Volume.state c.fall_back.new.area.0) c.carry_walk.new.area.kept s.held _ c.args.refusal _ _ _ _ c.in-Err-Back.stopped c.fall_back.result
          (omega (arith, c.in-Ok.ensures.passes.faults, c.carry_walk.ensures.passes.faults)) c.fall_back.ensures.passes.faults c.fall_back.ensures.answers
          (subst (Goes (Unit {0}) s (g.V.Volume.state c.carry_walk.new.area.vol.now) c.carry_walk.new.area.kept s.held one.after c.args.refusal) fails
          (lifted (Unit {0}) s (g.V.Volume.state c.in-Ok.area.vol.now) _ _ s.held one.after one.after c.args.refusal c.carry_walk.result c.in-Ok.ensures.passes.faults c.carry_walk.ensures.passes.faults refl opens.goes one.goes))
          (c.fall_back.ensures.falls told s.held (subst (λ r. IfBack r (CanGoBack (g.V.Volume.state c.carry_walk.new.area.vol.now) c.carry_walk.new.area.kept s.held)) fails one.goes.back)));
    })

-- where there is room for the walk, so there is for the walk over the area that was begun
pub returns-in-Err-Back-clause-caused : goal.returns-in-Err-Back-clause-caused
returns-in-Err-Back-clause-caused g c =
    let s = g.V.Volume.state c.args.vol.now in
    let t = g.V.Volume.state c.in-Ok.area.vol.now in
    let u = g.V.Volume.state c.carry_walk.new.area.vol.now in
    let fails = c.in-Err-Back.is ∙ ap Err c.in-Err-Back.field-0-is in
    let source = BelowCount (g.S.Source.faults c.args.src.now) (g.S.Source.faults c.carry_walk.new.src) in
    let room : Type 0 = g.V.Volume.told → HasRoom s c.args.parts.now in
    let begun : Type 0 = g.V.Volume.told → (F : Map) × Works t c.in-Ok.area.kept F × IsRoomy t F c.args.parts.now in
    let back : Type 0 = g.V.Volume.told → (F : Map) × CanGoBack u c.carry_walk.new.area.kept F × FitsBack u F in
    let roomy : (told : g.V.Volume.told) → HasRoom s c.args.parts.now → IsRoomy t s.held c.args.parts.now =
    λ told has. begun_roomy s c.args.parts.now c.requires.some has t (c.in-Ok.ensures.room told) ((c.in-Ok.ensures.opens told).outside ∙ all_outside s (c.requires.free told)) in
    let to_begun : room → begun = λ has told. (s.held, (c.in-Ok.ensures.opens told).works, roomy told (has told)) in
    let to_back : room → back = λ has told.
    let works = (c.in-Ok.ensures.opens told).works in
    let goes = (c.carry_walk.ensures.goes told s.held works).goes in
    let ends = c.carry_walk.ensures.roomy told s.held works (roomy told (has told)) in
    (s.held, subst (λ r. IfBack r (CanGoBack u c.carry_walk.new.area.kept s.held)) fails goes.back, subst (λ r. IfBack r (FitsBack u s.held)) fails ends.back) in
    let may = stop_room (Differs g.S.Source.told c.args.parts.now) begun room source c.args.refusal c.args.begun c.in-Err-Back.stopped.reached (BelowCount t.faults u.faults) c.in-Err-Back.stopped.why to_begun
    (subst (HaltCaused (Differs g.S.Source.told c.args.parts.now) begun source c.args.refusal c.args.begun t.faults u.faults) fails c.carry_walk.ensures.caused) in
    rw (c.vol-in-Err-Back-1.given.1 (sym (c.carry_walk.ensures.reference ∙ c.in-Ok.ensures.reference)))
    (fell_caused (Differs g.S.Source.told c.args.parts.now) room source c.args.refusal c.args.begun c.in-Err-Back.stopped.reached s.faults u.faults _ c.in-Err-Back.stopped.why c.fall_back.result
    (omega (arith, c.in-Ok.ensures.passes.faults, c.carry_walk.ensures.passes.faults)) c.fall_back.ensures.passes.faults
    (stop_before (Differs g.S.Source.told c.args.parts.now) room source c.args.refusal c.args.begun c.in-Err-Back.stopped.reached s.faults t.faults u.faults c.in-Err-Back.stopped.why c.in-Ok.ensures.passes.faults c.carry_walk.ensures.passes.faults may)
    (answers_room back room c.in-Err-Back.stopped.why s.faults u.faults (g.V.Volume.state c.fall_back.new.area.0).faults c.fall_back.result to_back
    (subst (λ (n : ℕ). AnswersStop back c.in-Err-Back.stopped.why n u.faults (g.V.Volume.state c.fall_back.new.area.0).faults c.fall_back.result) c.faults-first.ensures c.fall_back.ensures.answers)))

pub returns-in-Err-clause-caused : goal.returns-in-Err-clause-caused
returns-in-Err-clause-caused g c =
    let s = g.V.Volume.state c.args.vol.now in
    let r = g.V.Volume.state c.in-Err.refused.vol.now in
    rw (c.vol-1.given.1 (sym c.in-Err.ensures.handed_back), c.give_up.ensures, c.from.ensures)
    (begun_caused (Differs g.S.Source.told c.args.parts.now) (g.V.Volume.told → HasRoom s c.args.parts.now) (BelowCount (g.S.Source.faults c.args.src.now) (g.S.Source.faults c.args.src.now)) c.args.refusal c.args.begun c.first_reached.result s.faults r.faults c.in-Err.refused.fault
    (λ is. raised s r c.in-Err.ensures.passes.faults (c.in-Err.ensures.fault is))
    (λ is has. let full = c.in-Err.ensures.full is in not_begun s c.args.parts.now c.requires.some (has full.0) full.1))

pub returns-in-Err-clause-recovers : goal.returns-in-Err-clause-recovers
returns-in-Err-clause-recovers g c = λ told has. rw (c.vol-1.given.1 (sym c.in-Err.ensures.handed_back)) (c.in-Err.ensures.room_declined told)

pub returns-in-Ok-carry_walk-clause-recovers : goal.returns-in-Ok-carry_walk-clause-recovers
returns-in-Ok-carry_walk-clause-recovers g c = λ told has.
    let s = g.V.Volume.state c.args.vol.now in
    let t = g.V.Volume.state c.in-Ok.area.vol.now in
    let opens = c.in-Ok.ensures.opens told in
    let keeps = c.in-Ok.ensures.room told in
    let roomy = begun_roomy s c.args.parts.now c.requires.some has t keeps (opens.outside ∙ all_outside s (c.requires.free told)) in
    rw (c.vol-in-Ok-carry_walk-1.given.1 (sym (c.carry_walk.ensures.reference ∙ c.in-Ok.ensures.reference)), c.end.ensures)
    (walked_goes s c.args.parts.now c.requires.some has t _ c.carry_walk.result keeps (c.carry_walk.ensures.roomy told s.held opens.works roomy))

pub returns-in-Err-Unknown-clause-recovers : goal.returns-in-Err-Unknown-clause-recovers
returns-in-Err-Unknown-clause-recovers g c = λ told has.
    let s = g.V.Volume.state c.args.vol.now in
    let t = g.V.Volume.state c.in-Ok.area.vol.now in
    let opens = c.in-Ok.ensures.opens told in
    let keeps = c.in-Ok.ensures.room told in
    let roomy = begun_roomy s c.args.parts.now c.requires.some has t keeps (opens.outside ∙ all_outside s (c.requires.free told)) in
    rw (c.vol-in-Err-Unknown-1.given.1 (sym (c.carry_walk.ensures.reference ∙ c.in-Ok.ensures.reference)), c.end-in-Err-Unknown.ensures)
    (walked_goes s c.args.parts.now c.requires.some has t _ c.carry_walk.result keeps (c.carry_walk.ensures.roomy told s.held opens.works roomy))

pub returns-in-Err-Back-clause-recovers : goal.returns-in-Err-Back-clause-recovers
returns-in-Err-Back-clause-recovers g c = λ told has.
    let s = g.V.Volume.state c.args.vol.now in
    let t = g.V.Volume.state c.in-Ok.area.vol.now in
    let u = g.V.Volume.state c.carry_walk.new.area.vol.now in
    let opens = c.in-Ok.ensures.opens told in
    let keeps = c.in-Ok.ensures.room told in
    let roomy = begun_roomy s c.args.parts.now c.requires.some has t keeps (opens.outside ∙ all_outside s (c.requires.free told)) in
    let goes = (c.carry_walk.ensures.goes told s.held opens.works).goes in
    let ends = c.carry_walk.ensures.roomy told s.held opens.works roomy in
    let fails = c.in-Err-Back.is ∙ ap Err c.in-Err-Back.field-0-is in
    rw (c.vol-in-Err-Back-1.given.1 (sym (c.carry_walk.ensures.reference ∙ c.in-Ok.ensures.reference)))
    (fallen_goes s c.args.parts.now c.requires.some has t u _ c.carry_walk.result keeps ends
    (c.fall_back.ensures.recovers told s.held (subst (λ r. IfBack r (CanGoBack u c.carry_walk.new.area.kept s.held)) fails goes.back) (subst (λ r. IfBack r (FitsBack u s.held)) fails ends.back)))

pub returns-in-Err-Unknown-clause-ends : goal.returns-in-Err-Unknown-clause-ends
returns-in-Err-Unknown-clause-ends g c = λ told.
    let s = g.V.Volume.state c.args.vol.now in
    let opens = c.in-Ok.ensures.opens told in
    let one = c.carry_walk.ensures.goes told s.held opens.works in
    let fails = c.in-Err-Unknown.is ∙ ap Err c.in-Err-Unknown.field-0-is in
    rw (c.vol-in-Err-Unknown-1.given.1 (sym (c.carry_walk.ensures.reference ∙ c.in-Ok.ensures.reference)), c.end-in-Err-Unknown.ensures, c.suspended_in_commit.ensures)
    (record {
      after = one.after;
      made = λ is. one.made is ∙ ap (λ (m : Map). after_segments (g.S.Source.files c.args.src.now) m c.args.parts.now) (opens.outside ∙ all_outside s (c.requires.free told));
      ends = (unknown_ends (Unit {0}) s (g.V.Volume.state c.carry_walk.new.area.vol.now) c.carry_walk.new.area.kept s.held _ c.args.refusal c.in-Err-Unknown.before c.in-Err-Unknown.again c.in-Err-Unknown.reached
          (subst (Goes (Unit {0}) s (g.V.Volume.state c.carry_walk.new.area.vol.now) c.carry_walk.new.area.kept s.held one.after c.args.refusal) fails
          (lifted (Unit {0}) s (g.V.Volume.state c.in-Ok.area.vol.now) _ _ s.held one.after one.after c.args.refusal c.carry_walk.result c.in-Ok.ensures.passes.faults c.carry_walk.ensures.passes.faults refl opens.goes one.goes)));
    })

pub returns-in-Err-clause-reached : goal.returns-in-Err-clause-reached
returns-in-Err-clause-reached g c =
    rw (c.give_up.ensures, c.from.ensures)
    (begun_reached c.args.refusal c.args.begun c.args.parts.now c.first_reached.result c.in-Err.refused.fault
    (subst (AtOne c.args.parts.now) (sym c.first_reached.ensures) (among_first c.args.begun c.args.parts.now (not_none c.args.parts.now c.requires.some))))

pub returns-in-Err-Back-clause-reached : goal.returns-in-Err-Back-clause-reached
returns-in-Err-Back-clause-reached g c =
    fell_reached c.args.refusal c.args.begun c.args.parts.now c.in-Err-Back.stopped.reached _ c.in-Err-Back.stopped.why _ _ _ c.fall_back.result
    (subst (HaltReached c.args.refusal c.args.begun c.args.parts.now) (c.in-Err-Back.is ∙ ap Err c.in-Err-Back.field-0-is) (c.carry_walk.ensures.reached c.requires.some)) c.fall_back.ensures.answers

pub returns-in-Err-Unknown-clause-reached : goal.returns-in-Err-Unknown-clause-reached
returns-in-Err-Unknown-clause-reached g c =
    rw c.suspended_in_commit.ensures
    (subst (HaltReached c.args.refusal c.args.begun c.args.parts.now) (c.in-Err-Unknown.is ∙ ap Err c.in-Err-Unknown.field-0-is) (c.carry_walk.ensures.reached c.requires.some))

pub returns-in-Err-clause-commit_begins : goal.returns-in-Err-clause-commit_begins
returns-in-Err-clause-commit_begins g c = λ told.
    let s = g.V.Volume.state c.args.vol.now in
    rw (c.vol-1.given.1 (sym c.in-Err.ensures.handed_back)) (none_begun s.held s (g.V.Volume.state c.in-Err.refused.vol.now) (c.in-Err.ensures.declines told).goes _)

pub returns-in-Ok-carry_walk-clause-commit_begins : goal.returns-in-Ok-carry_walk-clause-commit_begins
returns-in-Ok-carry_walk-clause-commit_begins g c = λ told.
    let s = g.V.Volume.state c.args.vol.now in
    let opens = c.in-Ok.ensures.opens told in
    rw (c.vol-in-Ok-carry_walk-1.given.1 (sym (c.carry_walk.ensures.reference ∙ c.in-Ok.ensures.reference)), c.end.ensures)
    (then_begun s.held s _ opens.goes (g.V.Volume.state c.carry_walk.new.area.vol.now) _ _ (λ any. inl refl) (c.carry_walk.ensures.commit_begins told s.held opens.works))

pub returns-in-Err-Back-clause-commit_begins : goal.returns-in-Err-Back-clause-commit_begins
returns-in-Err-Back-clause-commit_begins g c = λ told.
    let s = g.V.Volume.state c.args.vol.now in
    let u = g.V.Volume.state c.carry_walk.new.area.vol.now in
    let opens = c.in-Ok.ensures.opens told in
    let fails = c.in-Err-Back.is ∙ ap Err c.in-Err-Back.field-0-is in
    let goes = (c.carry_walk.ensures.goes told s.held opens.works).goes in
    rw (c.vol-in-Err-Back-1.given.1 (sym (c.carry_walk.ensures.reference ∙ c.in-Ok.ensures.reference)))
    (back_begun s.held s u (g.V.Volume.state c.fall_back.new.area.0) _
    (then_begun s.held s _ opens.goes u _ _ (λ is. inr (subst (HaltHasBegunCommit c.args.begun c.args.parts.now) fails is)) (c.carry_walk.ensures.commit_begins told s.held opens.works))
    (c.fall_back.ensures.falls told s.held (subst (λ r. IfBack r (CanGoBack u c.carry_walk.new.area.kept s.held)) fails goes.back)).goes)

pub returns-in-Err-Unknown-clause-commit_begins : goal.returns-in-Err-Unknown-clause-commit_begins
returns-in-Err-Unknown-clause-commit_begins g c = λ told.
    let s = g.V.Volume.state c.args.vol.now in
    let opens = c.in-Ok.ensures.opens told in
    let fails = c.in-Err-Unknown.is ∙ ap Err c.in-Err-Unknown.field-0-is in
    rw (c.vol-in-Err-Unknown-1.given.1 (sym (c.carry_walk.ensures.reference ∙ c.in-Ok.ensures.reference)), c.end-in-Err-Unknown.ensures)
    (then_begun s.held s _ opens.goes (g.V.Volume.state c.carry_walk.new.area.vol.now) _ _ (λ is. inr (subst (HaltHasBegunCommit c.args.begun c.args.parts.now) fails is)) (c.carry_walk.ensures.commit_begins told s.held opens.works))
