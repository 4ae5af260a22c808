use Rattle.std.proofs.Common.{ℕ, ◌+◌, ◌≤◌, List, ◌∷◌, ◌++◌, [], Err, length, take, map, sym, ap, subst, arith}
use Rattle.std.proofs.lemmas.List.{take_all}
use Rattle.mi_volume.specs.declared.volume.TheConstants.{PIECE}
use Rattle.mi_volume.proofs.Moments.{passes, then_passes}
use Rattle.mi_undo.specs.Notes.{Note, notes_for, spelled}
use Rattle.mi_undo.specs.Entry.{note_for}
use Rattle.mi_undo.specs.declared.kept.Place.{Place}
use Rattle.mi_undo.proofs.FaultLemmas.{at_err, value_at_err, full_was, memory_not_full}
use Rattle.mi_undo.proofs.AddLemmas.{added_get, adds_failed}
use Rattle.mi_undo.proofs.GatherLemmas.{nothing_left}
use Rattle.mi_undo.proofs.EntrySteps.{Begun, begun, first_failed, notes_for-take, prefix_shorter, outside_at, apart, names_pushed, before_note, note_failed, note_more, note_most, rest_failed, rest_written}
use Rattle.mi_undo.proofs.entry.write_entry.Goals as goal

pub returns-in_err-put-clause-writes : goal.returns-in_err-put-clause-writes
returns-in_err-put-clause-writes g c = λ told inside out. record {
  adds = first_failed _ _ _ _ c.from_residual.result _ c.put.ensures.moments (c.in_err-put.ensures.writes told) c.from_residual.ensures.0
      (λ full. ap Err (full_was c.from_residual.result c.in_err-put.field-0.0 c.from_residual.ensures.1 full));
  places = value_at_err c.from_residual.result _ c.from_residual.ensures.0;
  fit = at_err _ c.from_residual.result c.from_residual.ensures.0;
}

pub loop-name-init : goal.loop-name-init
loop-name-init g c = record {
  passes = passes _ _ _ c.put.ensures.moments;
  names = ap (λ (l : List Place). map (λ (p : Place). p.name) l) c.new-places.ensures.items;
  short = omega (arith, ap length c.new-pending.ensures);
  begun = λ told inside out.
      subst (λ (p : List ℕ). Begun c.args.entry.now c.args.number [] p (g.V.Volume.state c.args.vol.now) (g.V.Volume.state c.put.new.self) c.new-places.result.items 0) (sym c.new-pending.ensures)
      (subst (λ (l : List Place). Begun c.args.entry.now c.args.number [] [] (g.V.Volume.state c.args.vol.now) (g.V.Volume.state c.put.new.self) l 0) (sym c.new-places.ensures.items)
      (begun (g.V.Volume.state c.args.vol.now) (g.V.Volume.state c.put.new.self) c.args.entry.now c.args.number c.put.ensures.moments (c.in_ok-put.ensures.writes told)));
}

pub returns-in_err-place-clause-writes : goal.returns-in_err-place-clause-writes
returns-in_err-place-clause-writes g c = λ told inside out.
    let far = c.loop-name.invariant.begun told inside out in
    let ne = apart _ _ inside (outside_at _ _ _ out c.loop-name-test.true c.name-item.is) in
    let s = g.V.Volume.state c.args.vol.now in
    let before = before_note s (g.V.Volume.state c.loop-name.vol) (g.V.Volume.state c.write_note.new.vol) c.args.entry.now c.name-item.result _ _ _ c.write_note.new.pending _ _ far ne in
    let r = c.from_residual-in_err-place in
    let next = notes_for-take s.held c.args.names.now c.loop-name.name-index c.name-item.result c.loop-name-test.true c.name-item.is in
    let le : length (spelled (notes_for s.held (take c.loop-name.name-index c.args.names.now) ++ note_for s.held c.name-item.result ∷ [])) ≤ length (spelled (notes_for s.held c.args.names.now)) =
    subst (λ (l : List Note). length (spelled l) ≤ length (spelled (notes_for s.held c.args.names.now))) next (prefix_shorter s.held c.args.names.now (c.loop-name.name-index + 1)) in
    record {
      adds = note_failed s (g.V.Volume.state c.loop-name.vol) (g.V.Volume.state c.write_note.new.vol) c.args.entry.now c.name-item.result _ _ _ c.write_note.new.pending _ _ far ne r.result c.in_err-place.field-0.0 _
          (c.in_err-place.ensures.writes told ne _ before) r.ensures.1 r.ensures.0 le;
      places = value_at_err r.result _ r.ensures.0;
      fit = at_err _ r.result r.ensures.0;
    }

pub returns-in_err-push-clause-writes : goal.returns-in_err-push-clause-writes
returns-in_err-push-clause-writes g c = λ told inside out.
    let far = c.loop-name.invariant.begun told inside out in
    let ne = apart _ _ inside (outside_at _ _ _ out c.loop-name-test.true c.name-item.is) in
    let s = g.V.Volume.state c.args.vol.now in
    let before = before_note s (g.V.Volume.state c.loop-name.vol) (g.V.Volume.state c.write_note.new.vol) c.args.entry.now c.name-item.result _ _ _ c.write_note.new.pending _ _ far ne in
    let r = c.from_residual-in_err-push in
    let next = notes_for-take s.held c.args.names.now c.loop-name.name-index c.name-item.result c.loop-name-test.true c.name-item.is in
    let more = note_more s (g.V.Volume.state c.loop-name.vol) (g.V.Volume.state c.write_note.new.vol) c.args.entry.now c.name-item.result _ _ _ c.write_note.new.pending _ _ far ne _ (c.in_ok-place.ensures.writes told ne _ before) c.in_ok-place.ensures.length in
    let le : length (spelled (notes_for s.held (take c.loop-name.name-index c.args.names.now) ++ note_for s.held c.name-item.result ∷ [])) ≤ length (spelled (notes_for s.held c.args.names.now)) =
    subst (λ (l : List Note). length (spelled l) ≤ length (spelled (notes_for s.held c.args.names.now))) next (prefix_shorter s.held c.args.names.now (c.loop-name.name-index + 1)) in
    let most = note_most s (g.V.Volume.state c.write_note.new.vol) c.args.entry.now _ _ _ _ _ more (spelled (notes_for s.held c.args.names.now)) le in
    record {
      adds = adds_failed s (g.V.Volume.state c.write_note.new.vol) c.args.entry.now [] _ r.result more.added.only most r.ensures.0 (memory_not_full r.result r.ensures.1);
      places = value_at_err r.result _ r.ensures.0;
      fit = at_err _ r.result r.ensures.0;
    }

pub loop-name-preserved : goal.loop-name-preserved
loop-name-preserved g c = record {
  passes = then_passes _ _ _ c.loop-name.invariant.passes c.write_note.ensures.passes;
  names = names_pushed _ _ _ c.args.names.now c.loop-name.name-index c.name-item.result c.in_ok-push.ensures.items c.loop-name.invariant.names c.in_ok-place.ensures.name c.loop-name-test.true c.name-item.is;
  short = c.in_ok-place.ensures.short;
  begun = λ told inside out.
      let far = c.loop-name.invariant.begun told inside out in
      let ne = apart _ _ inside (outside_at _ _ _ out c.loop-name-test.true c.name-item.is) in
      let s = g.V.Volume.state c.args.vol.now in
      let before = before_note s (g.V.Volume.state c.loop-name.vol) (g.V.Volume.state c.write_note.new.vol) c.args.entry.now c.name-item.result _ _ _ c.write_note.new.pending _ _ far ne in
      let next = notes_for-take s.held c.args.names.now c.loop-name.name-index c.name-item.result c.loop-name-test.true c.name-item.is in
      let more = note_more s (g.V.Volume.state c.loop-name.vol) (g.V.Volume.state c.write_note.new.vol) c.args.entry.now c.name-item.result _ _ _ c.write_note.new.pending _ _ far ne _ (c.in_ok-place.ensures.writes told ne _ before) c.in_ok-place.ensures.length in
      subst (λ (l : List Note). Begun c.args.entry.now c.args.number l c.write_note.new.pending s (g.V.Volume.state c.write_note.new.vol) c.push.new.self.items c.in_ok-place.end) (sym next)
      (subst (λ (l : List Place). Begun c.args.entry.now c.args.number (notes_for s.held (take c.loop-name.name-index c.args.names.now) ++ note_for s.held c.name-item.result ∷ []) c.write_note.new.pending s (g.V.Volume.state c.write_note.new.vol) l c.in_ok-place.end) (sym c.in_ok-push.ensures.items) more);
}

pub returns-in_err-make_room-clause-writes : goal.returns-in_err-make_room-clause-writes
returns-in_err-make_room-clause-writes g c = λ told inside out.
    let s = g.V.Volume.state c.args.vol.now in let t = g.V.Volume.state c.loop-name.vol in
    let r = c.from_residual-in_err-make_room in
    let far = subst (λ (l : List (List ℕ)). Begun c.args.entry.now c.args.number (notes_for s.held l) c.loop-name.pending s t c.loop-name.places.items c.loop-name.at) (take_all c.loop-name.name-index c.args.names.now c.loop-name-test.false) (c.loop-name.invariant.begun told inside out) in
    record {
      adds = rest_failed s t c.args.entry.now _ _ _ _ _ far (g.V.Volume.state c.make_room.new.vol) c.make_room.new.pending r.result c.in_err-make_room.field-0.0
          (c.in_err-make_room.ensures.gathers told far.written (added_get s t c.args.entry.now [] far.written far.added)) r.ensures.1;
      places = value_at_err r.result _ r.ensures.0;
      fit = at_err _ r.result r.ensures.0;
    }

pub returns-clause-writes : goal.returns-clause-writes
returns-clause-writes g c = λ told inside out.
    let s = g.V.Volume.state c.args.vol.now in let t = g.V.Volume.state c.loop-name.vol in
    let far = subst (λ (l : List (List ℕ)). Begun c.args.entry.now c.args.number (notes_for s.held l) c.loop-name.pending s t c.loop-name.places.items c.loop-name.at) (take_all c.loop-name.name-index c.args.names.now c.loop-name-test.false) (c.loop-name.invariant.begun told inside out) in
    record {
      adds = rest_written s t c.args.entry.now _ _ _ _ _ far (g.V.Volume.state c.make_room.new.vol) c.make_room.new.pending _ _
          (c.in_ok-make_room.ensures.gathers told far.written (added_get s t c.args.entry.now [] far.written far.added)) (nothing_left c.make_room.new.pending PIECE c.in_ok-make_room.ensures.room);
      places = far.places_are;
      fit = far.fit;
    }
