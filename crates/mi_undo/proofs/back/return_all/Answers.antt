use Rattle.std.proofs.Common.{◌+◌, List, take, Err, sym, ap, subst, ◌∙◌}
use Rattle.std.proofs.lemmas.List.{take_all}
use Rattle.mi_volume.proofs.Moments.{then_passes}
use Rattle.mi_undo.specs.Area.{note_in, notes_in}
use Rattle.mi_undo.specs.Notes.{Note}
use Rattle.mi_undo.specs.Back.{Returning}
use Rattle.mi_undo.specs.declared.kept.Place.{Place}
use Rattle.mi_undo.proofs.BackLemmas.{split_at_place, take_place, note_in_inside, step_goes, step_keeps, step_inside, step_touches, name_away, name_out, returning_some, all_back}
use Rattle.mi_undo.proofs.OverLemmas.{take_notes, stuck}
use Rattle.mi_undo.proofs.back.return_all.Goals as goal

pub returns-in-Err-clause-returned : goal.returns-in-Err-clause-returned
returns-in-Err-clause-returned g c = λ told F ns is keeps new away.
    let s0 = g.V.Volume.state c.args.vol.now in let s = g.V.Volume.state c.loop-at.vol in let t = g.V.Volume.state c.return_one.new.vol in
    let so_far = c.loop-at.invariant.returning told F ns is keeps new away in
    let split = sym is ∙ split_at_place s0.held c.args.places.now c.loop-at.at c.index-places-at.result c.loop-at-test.true c.index-places-at.is in
    let n = note_in s0.held c.index-places-at.result in
    let puts = c.return_one.ensures.puts told (name_out s0 s F ns _ _ n split so_far.keeps) (name_away s0 s F ns _ _ n split so_far new) in
    record {
      goes = step_goes s0 s F ns _ _ n split t so_far.goes so_far.keeps puts.only.goes;
      keeps = step_keeps s0 s F ns _ _ n split t so_far.keeps puts.only.others puts.only.dirty;
      inside = step_inside s0 s F ns _ _ n split t so_far.keeps puts.only.others so_far.inside;
      touches = step_touches s0 s F ns _ _ n split t so_far.touches puts.only.goes puts.only.others puts.only.dirty;
      ok = tt;
    }

pub returns-in-Err-clause-stuck : goal.returns-in-Err-clause-stuck
returns-in-Err-clause-stuck g c = λ told F ns is keeps new away full.
    let s0 = g.V.Volume.state c.args.vol.now in let s = g.V.Volume.state c.loop-at.vol in
    let p = c.index-places-at.result in
    let so_far = c.loop-at.invariant.returning told F ns is keeps new away in
    let split = sym is ∙ split_at_place s0.held c.args.places.now c.loop-at.at p c.loop-at-test.true c.index-places-at.is in
    let puts = c.in-Err.ensures.puts told (name_out s0 s F ns _ _ (note_in s0.held p) split so_far.keeps) (name_away s0 s F ns _ _ (note_in s0.held p) split so_far new) in
    stuck s0 s F ns _ _ p c.loop-at.at split new keeps away so_far (ap (λ (l : List Note). take c.loop-at.at l) (sym is) ∙ take_notes s0.held c.args.places.now c.loop-at.at)
    (ap (λ (l : List Note). take (c.loop-at.at + 1) l) (sym is) ∙ take_notes s0.held c.args.places.now (c.loop-at.at + 1) ∙ take_place s0.held c.args.places.now c.loop-at.at p c.loop-at-test.true c.index-places-at.is)
    (c.loop-at.invariant.fits told F ns is keeps new away) (puts.full (ap Err full))

pub loop-at-preserved : goal.loop-at-preserved
loop-at-preserved g c = record {
  passes = then_passes _ _ _ c.loop-at.invariant.passes c.return_one.ensures.passes;
  returning = λ told F ns is keeps new away.
      let s0 = g.V.Volume.state c.args.vol.now in let s = g.V.Volume.state c.loop-at.vol in let t = g.V.Volume.state c.return_one.new.vol in
      let so_far = c.loop-at.invariant.returning told F ns is keeps new away in
      let split = sym is ∙ split_at_place s0.held c.args.places.now c.loop-at.at c.index-places-at.result c.loop-at-test.true c.index-places-at.is in
      let n = note_in s0.held c.index-places-at.result in
      let puts = c.in_default.ensures.puts told (name_out s0 s F ns _ _ n split so_far.keeps) (name_away s0 s F ns _ _ n split so_far new) in
      subst (λ (front : List Note). Returning s0 t F ns front) (sym (take_place s0.held c.args.places.now c.loop-at.at c.index-places-at.result c.loop-at-test.true c.index-places-at.is))
      (returning_some s0 s F ns _ _ n split t so_far new puts.only.goes puts.only.others puts.only.dirty (puts.ok ∙ ap (λ (m : Note). m.was) (note_in_inside s0.held s.held c.index-places-at.result so_far.inside)));
  fits = λ told F ns is keeps new away within.
      let s0 = g.V.Volume.state c.args.vol.now in let s = g.V.Volume.state c.loop-at.vol in
      let so_far = c.loop-at.invariant.returning told F ns is keeps new away in
      let split = sym is ∙ split_at_place s0.held c.args.places.now c.loop-at.at c.index-places-at.result c.loop-at-test.true c.index-places-at.is in
      let n = note_in s0.held c.index-places-at.result in
      let puts = c.in_default.ensures.puts told (name_out s0 s F ns _ _ n split so_far.keeps) (name_away s0 s F ns _ _ n split so_far new) in
      puts.fits (c.loop-at.invariant.fits told F ns is keeps new away within);
}

pub returns-clause-returned : goal.returns-clause-returned
returns-clause-returned g c = λ told F ns is keeps new away.
    let s0 = g.V.Volume.state c.args.vol.now in let s = g.V.Volume.state c.loop-at.vol in
    let so_far = subst (λ (l : List Note). Returning s0 s F ns l) (ap (λ (l : List Place). notes_in s0.held l) (take_all c.loop-at.at c.args.places.now c.loop-at-test.false) ∙ is) (c.loop-at.invariant.returning told F ns is keeps new away) in
    record { goes = so_far.goes; keeps = so_far.keeps; inside = so_far.inside; touches = so_far.touches; ok = all_back s0 s F ns so_far }
