use Rattle.std.proofs.Common.{ℕ, List, [], ◌∷◌, refl, sym, ap, subst, ◌∙◌, arith}
use Rattle.std.proofs.lemmas.List.{take_all}
use Rattle.mi_volume.proofs.Moments.{then_passes, started}
use Rattle.std.specs.List.{All}
use Rattle.mi_script.specs.Scripts.{touched_names}
use Rattle.mi_undo.specs.Stands.{outside}
use Rattle.mi_undo.specs.Area.{AreOutside}
use Rattle.mi_runner.specs.Records.{MayCarry}
use Rattle.mi_model.specs.Plans.{Planned}
use Rattle.mi_carry.specs.Segments.{after_segments}
use Rattle.mi_carry.specs.Causes.{Differs}
use Rattle.mi_carry.proofs.CauseLemmas.{stop_weaker, differs_among, below_before}
use Rattle.mi_carry.proofs.PartLemmas.{at_part, more_map, then_failed, then_one, all_along}
use Rattle.mi_carry.proofs.RoomLemmas.{room_starts, room_is_kept, segment_fits, segment_stays, segment_next}
use Rattle.mi_carry.specs.Reached.{AtMetStop}
use Rattle.mi_carry.proofs.ReachLemmas.{at_met}
use Rattle.mi_carry.proofs.parts.carry_parts.Goals as goal

pub loop-part-init : goal.loop-part-init
loop-part-init g c = record {
  reference = refl;
  working = c.requires.fresh.is_working;
  entries = omega arith;
  goes = λ told F w. (started _ _, w);
  map = λ told s F w. refl;
  room = λ told F w roomy. room_starts _ F _ c.args.parts.now c.requires.fresh.names roomy;
  passes = record { later = omega arith; faults = omega arith; capacity = refl };
  stays = refl;
  counts = omega arith;
}

pub carry_part-requires-clause-works : goal.carry_part-requires-clause-works
carry_part-requires-clause-works g c = λ t. let w = c.requires.works t in (w.0, (c.loop-part.invariant.goes t w.0 w.1).1)

pub returns-in-Err-clause-along : goal.returns-in-Err-clause-along
returns-in-Err-clause-along g c = λ t F w.
    let so_far = c.loop-part.invariant.goes t F w in
    then_failed _ _ _ _ F _ _ so_far.0 (c.in-Err.ensures.along t F so_far.1)

pub loop-part-preserved : goal.loop-part-preserved
loop-part-preserved g c = record {
  reference = c.in-Ok.ensures.reference ∙ c.loop-part.invariant.reference;
  working = c.in-Ok.ensures.working;
  entries = omega (arith, c.in-Ok.ensures.entries, c.loop-part.invariant.entries);
  goes = λ t F w. let so_far = c.loop-part.invariant.goes t F w in then_one _ _ _ _ F _ so_far.0 (c.in-Ok.ensures.along t F so_far.1);
  map = λ t s F w.
      let so_far = c.loop-part.invariant.goes t F w in
      more_map _ _ _ _ _ c.args.parts.now c.loop-part.part-index c.part-item.result c.loop-part.invariant.stays c.loop-part-test.true c.part-item.is (c.loop-part.invariant.map t s F w) (c.in-Ok.ensures.map t s F so_far.1);
  room = λ t F w roomy.
      let so_far = c.loop-part.invariant.goes t F w in
      let r = c.loop-part.invariant.room t F w roomy in
      segment_next _ _ F _ c.args.parts.now c.loop-part.part-index c.part-item.result c.loop-part-test.true c.part-item.is roomy r
      (at_part (λ p. AreOutside (touched_names p.records)) c.args.parts.now c.loop-part.part-index c.part-item.result c.requires.outside c.loop-part-test.true c.part-item.is)
      (at_part (λ p. All MayCarry p.records) c.args.parts.now c.loop-part.part-index c.part-item.result c.requires.records c.loop-part-test.true c.part-item.is)
      (g.V.Volume.state c.carry_part.new.area.vol.now) _ c.in-Ok.ensures.noted (c.in-Ok.ensures.room t F r.n so_far.1 r.takes) (c.in-Ok.ensures.others t F so_far.1) (c.in-Ok.ensures.longest t F so_far.1);
  passes = then_passes _ _ _ c.loop-part.invariant.passes c.in-Ok.ensures.passes;
  stays = c.in-Ok.ensures.source_stays ∙ c.loop-part.invariant.stays;
  counts = omega (arith, c.loop-part.invariant.counts, c.in-Ok.ensures.source_counts);
}

pub returns-clause-along : goal.returns-clause-along
returns-clause-along g c = λ t F w. all_along _ _ _ F _ (c.loop-part.invariant.goes t F w)

pub returns-clause-map : goal.returns-clause-map
returns-clause-map g c = λ t s F w.
    c.loop-part.invariant.map t s F w
    ∙ ap (λ (parts : List Planned). after_segments (g.S.Source.files c.args.src.now) (outside (g.V.Volume.state c.args.area.now.vol.now).held) parts) (take_all c.loop-part.part-index c.args.parts.now c.loop-part-test.false)

pub returns-in-Err-clause-stopped : goal.returns-in-Err-clause-stopped
returns-in-Err-clause-stopped g c =
    stop_weaker (Differs g.S.Source.told (c.part-item.result ∷ [])) (Differs g.S.Source.told c.args.parts.now) c.in-Err.why
    (differs_among g.S.Source.told c.args.parts.now c.loop-part.part-index c.part-item.result c.loop-part-test.true c.part-item.is)
    (λ below room. below_before _ _ _ c.loop-part.invariant.passes.faults c.in-Err.ensures.passes.faults (below (λ told.
    let start = room told in
    segment_fits _ _ start.0 _ c.args.parts.now c.loop-part.part-index c.part-item.result c.loop-part-test.true c.part-item.is start.2 (c.loop-part.invariant.room told start.0 start.1 start.2)
    (at_part (λ p. AreOutside (touched_names p.records)) c.args.parts.now c.loop-part.part-index c.part-item.result c.requires.outside c.loop-part-test.true c.part-item.is)
    (at_part (λ p. All MayCarry p.records) c.args.parts.now c.loop-part.part-index c.part-item.result c.requires.records c.loop-part-test.true c.part-item.is))))
    (λ below. below_before _ _ _ c.loop-part.invariant.counts c.in-Err.ensures.source_counts below)
    c.in-Err.ensures.stopped

pub returns-in-Err-clause-roomy : goal.returns-in-Err-clause-roomy
returns-in-Err-clause-roomy g c = λ t F w roomy.
    let so_far = c.loop-part.invariant.goes t F w in
    let r = c.loop-part.invariant.room t F w roomy in
    segment_stays _ _ F _ c.args.parts.now c.loop-part.part-index c.part-item.result c.loop-part-test.true c.part-item.is roomy r
    (at_part (λ p. AreOutside (touched_names p.records)) c.args.parts.now c.loop-part.part-index c.part-item.result c.requires.outside c.loop-part-test.true c.part-item.is)
    (at_part (λ p. All MayCarry p.records) c.args.parts.now c.loop-part.part-index c.part-item.result c.requires.records c.loop-part-test.true c.part-item.is)
    (g.V.Volume.state c.carry_part.new.area.vol.now) (c.in-Err.ensures.room t F r.n so_far.1 r.takes)

pub returns-clause-roomy : goal.returns-clause-roomy
returns-clause-roomy g c = λ t F w roomy. room_is_kept _ _ F _ c.args.parts.now c.loop-part.part-index roomy (c.loop-part.invariant.room t F w roomy)

pub returns-in-Err-clause-reached : goal.returns-in-Err-clause-reached
returns-in-Err-clause-reached g c =
    subst (λ (n : ℕ). AtMetStop c.args.parts.now n c.in-Err.why) (sym c.reached.ensures)
    (at_met g.S.Source.told _ _ c.args.parts.now c.loop-part.part-index c.part-item.result c.loop-part-test.true c.part-item.is c.in-Err.why c.in-Err.ensures.stopped)
