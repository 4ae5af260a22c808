use Rattle.std.proofs.Common.{List, sym, subst}
use Rattle.std.proofs.lemmas.List.{take_all}
use Rattle.mi_volume.proofs.Moments.{passes, then_passes}
use Rattle.mi_undo.specs.Area.{notes_in}
use Rattle.mi_undo.specs.Notes.{Note}
use Rattle.mi_undo.specs.Back.{Removing}
use Rattle.mi_undo.specs.declared.kept.Place.{Place}
use Rattle.mi_undo.proofs.FaultLemmas.{at_err}
use Rattle.mi_undo.proofs.BackLemmas.{split_at_place, take_place, step_goes, step_keeps, step_inside, step_touches, removing_step}
use Rattle.mi_undo.proofs.back.remove_all.Goals as goal

pub returns-in_err-remove-clause-removed : goal.returns-in_err-remove-clause-removed
returns-in_err-remove-clause-removed g c = λ told F keeps.
    let s0 = g.V.Volume.state c.args.vol.now in let s = g.V.Volume.state c.loop-place.vol in let t = g.V.Volume.state c.remove.new.self in
    let so_far = c.loop-place.invariant.removing told F keeps in
    let split = split_at_place s0.held c.args.places.now c.loop-place.place-index c.place-item.result c.loop-place-test.true c.place-item.is in
    let removes = c.remove.ensures.removes told in
    record {
      goes = step_goes s0 s F _ _ _ _ split t so_far.goes so_far.keeps c.remove.ensures.moments;
      keeps = step_keeps s0 s F _ _ _ _ split t so_far.keeps removes.others removes.dirty;
      inside = step_inside s0 s F _ _ _ _ split t so_far.keeps removes.others so_far.inside;
      touches = step_touches s0 s F _ _ _ _ split t so_far.touches c.remove.ensures.moments removes.others removes.dirty;
      ok = at_err _ c.from_residual.result c.from_residual.ensures.0;
    }

pub loop-place-preserved : goal.loop-place-preserved
loop-place-preserved g c = record {
  passes = then_passes _ _ _ c.loop-place.invariant.passes (passes _ _ _ c.remove.ensures.moments);
  removing = λ told F keeps.
      let s0 = g.V.Volume.state c.args.vol.now in let s = g.V.Volume.state c.loop-place.vol in let t = g.V.Volume.state c.remove.new.self in
      let so_far = c.loop-place.invariant.removing told F keeps in
      let split = split_at_place s0.held c.args.places.now c.loop-place.place-index c.place-item.result c.loop-place-test.true c.place-item.is in
      let removes = c.in_ok-remove.ensures.removes told in
      subst (λ (front : List Note). Removing s0 t F (notes_in s0.held c.args.places.now) front) (sym (take_place s0.held c.args.places.now c.loop-place.place-index c.place-item.result c.loop-place-test.true c.place-item.is))
      (removing_step s0 s F _ _ _ _ split t so_far c.remove.ensures.moments removes.others removes.dirty removes.ok);
}

pub returns-clause-removed : goal.returns-clause-removed
returns-clause-removed g c = λ told F keeps.
    let s0 = g.V.Volume.state c.args.vol.now in let s = g.V.Volume.state c.loop-place.vol in
    let so_far = subst (λ (l : List Place). Removing s0 s F (notes_in s0.held c.args.places.now) (notes_in s0.held l)) (take_all c.loop-place.place-index c.args.places.now c.loop-place-test.false) (c.loop-place.invariant.removing told F keeps) in
    record { goes = so_far.goes; keeps = so_far.keeps; inside = so_far.inside; touches = so_far.touches; ok = so_far.away }
