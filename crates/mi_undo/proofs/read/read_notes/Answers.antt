use Rattle.std.proofs.Common.{◌≡◌, ◌∙◌, ◌+◌, ℕ, Option, IfSome, length, sym, ap, subst, arith}
use Rattle.std.specs.FinMap.{get}
use Rattle.mi_volume.specs.Maps.{Map, bytes_or_none}
use Rattle.mi_volume.proofs.Moments.{passes, then_passes}
use Rattle.mi_undo.specs.Area.{notes_in, note_in}
use Rattle.mi_undo.specs.Reading.{note_placed}
use Rattle.mi_undo.specs.declared.kept.Place.{Place}
use Rattle.mi_undo.proofs.EntryLemmas.{below_more}
use Rattle.mi_undo.proofs.ReadLemmas.{look_then}
use Rattle.mi_undo.proofs.HalfLemmas.{half_start, half_bad, half_end, half_twice, half_next, held_total, none_held, entry_there, entry_away, noted_place, placed_same, half_placed, below_placed}
use Rattle.mi_undo.proofs.read.read_notes.Goals as goal

pub returns-in-Ok-None-clause-adds : goal.returns-in-Ok-None-clause-adds
returns-in-Ok-None-clause-adds g c = λ told. entry_away _ _ (none_held (get (g.V.Volume.state c.args.vol.now).held c.args.entry.now) (sym c.in-Ok-None.field-0-is ∙ c.in-Ok-None.ensures.value told))

pub loop-at-init : goal.loop-at-init
loop-at-init g c = record {
  knows = c.requires.knows;
  below = below_more c.args.number (c.args.number + 1) c.args.places.now.items (omega arith) c.requires.below;
  half = λ told. half_start (bytes_or_none (get (g.V.Volume.state c.args.vol.now).held c.args.entry.now)) (notes_in (g.V.Volume.state c.args.vol.now).held c.args.places.now.items);
  looks = λ told. record { goes = c.size.ensures.moments; stays = c.size.ensures.stays told };
  passes = passes _ _ _ c.size.ensures.moments;
}

pub returns-in_default-clause-adds : goal.returns-in_default-clause-adds
returns-in_default-clause-adds g c = λ told.
    let h = (g.V.Volume.state c.args.vol.now).held in let entry = c.args.entry.now in let bytes = bytes_or_none (get h entry) in
    let seen = notes_in h c.args.places.now.items in let now = notes_in h c.loop-at.places.items in
    let whole = held_total (get h entry) c.in-Ok-Some.total (sym c.in-Ok-Some.field-0-is ∙ c.in-Ok-Some.ensures.value told) in
    let stays = (c.loop-at.invariant.looks told).stays.held in
    let placed = placed_same h (g.V.Volume.state c.loop-at.vol).held entry c.loop-at.at _ stays (c.in_ok-place.ensures.value told c.requires.entry (whole.0 ∙ ap (λ (m : Map). length (bytes_or_none (get m entry))) (sym stays))) in
    entry_there seen (get h entry) _ whole.1 (half_bad bytes seen now c.loop-at.at (c.loop-at.invariant.half told) (omega (arith, c.loop-at-test.true, whole.0)) (placed ∙ ap (λ (o : Option (Place × ℕ)). note_placed h bytes o) c.in_default.is))

pub returns-then-not-branch-clause-adds : goal.returns-then-not-branch-clause-adds
returns-then-not-branch-clause-adds g c = λ told.
    let h = (g.V.Volume.state c.args.vol.now).held in let entry = c.args.entry.now in let bytes = bytes_or_none (get h entry) in
    let seen = notes_in h c.args.places.now.items in let now = notes_in h c.loop-at.places.items in
    let whole = held_total (get h entry) c.in-Ok-Some.total (sym c.in-Ok-Some.field-0-is ∙ c.in-Ok-Some.ensures.value told) in
    let stays = (c.loop-at.invariant.looks told).stays.held in
    let placed = placed_same h (g.V.Volume.state c.loop-at.vol).held entry c.loop-at.at _ stays (c.in_ok-place.ensures.value told c.requires.entry (whole.0 ∙ ap (λ (m : Map). length (bytes_or_none (get m entry))) (sym stays))) in
    let read = placed ∙ ap (λ (o : Option (Place × ℕ)). note_placed h bytes o) c.in-Some.is in
    let known = noted_place h c.loop-at.places.items c.in-Some.place.name _ c.in_ok-keep_place.ensures.is_new in
    entry_there seen (get h entry) _ whole.1 (half_twice bytes seen now c.loop-at.at (c.loop-at.invariant.half told) (note_in h c.in-Some.place) c.in-Some.next read (known ∙ c.if-not-branch.true))

pub loop-at-preserved : goal.loop-at-preserved
loop-at-preserved g c = record {
  knows = c.in_ok-keep_place.ensures.knows c.if-not-branch.false;
  below = below_placed c.args.number c.loop-at.places.items _ c.in-Some.place (c.in_ok-keep_place.ensures.kept c.if-not-branch.false) c.loop-at.invariant.below
      (subst (λ (o : Option (Place × ℕ)). IfSome o (λ p. p.0.entry ≡ c.args.number)) c.in-Some.is c.in_ok-place.ensures.number);
  half = λ told.
      let h = (g.V.Volume.state c.args.vol.now).held in let entry = c.args.entry.now in let bytes = bytes_or_none (get h entry) in
      let seen = notes_in h c.args.places.now.items in let now = notes_in h c.loop-at.places.items in
      let whole = held_total (get h entry) c.in-Ok-Some.total (sym c.in-Ok-Some.field-0-is ∙ c.in-Ok-Some.ensures.value told) in
      let stays = (c.loop-at.invariant.looks told).stays.held in
      let placed = placed_same h (g.V.Volume.state c.loop-at.vol).held entry c.loop-at.at _ stays (c.in_ok-place.ensures.value told c.requires.entry (whole.0 ∙ ap (λ (m : Map). length (bytes_or_none (get m entry))) (sym stays))) in
      let read = placed ∙ ap (λ (o : Option (Place × ℕ)). note_placed h bytes o) c.in-Some.is in
      let known = noted_place h c.loop-at.places.items c.in-Some.place.name _ c.in_ok-keep_place.ensures.is_new in
      half_placed h bytes seen c.loop-at.places.items _ c.in-Some.place c.in-Some.next (c.in_ok-keep_place.ensures.kept c.if-not-branch.false)
      (half_next bytes seen now c.loop-at.at (c.loop-at.invariant.half told) (note_in h c.in-Some.place) c.in-Some.next read (known ∙ c.if-not-branch.false));
  looks = λ told. look_then _ _ _ (c.loop-at.invariant.looks told) (c.in_ok-place.ensures.looks told);
  passes = then_passes _ _ _ c.loop-at.invariant.passes c.read_note.ensures.passes;
}

pub returns-clause-adds : goal.returns-clause-adds
returns-clause-adds g c = λ told.
    let h = (g.V.Volume.state c.args.vol.now).held in let entry = c.args.entry.now in let bytes = bytes_or_none (get h entry) in
    let seen = notes_in h c.args.places.now.items in let now = notes_in h c.loop-at.places.items in
    let whole = held_total (get h entry) c.in-Ok-Some.total (sym c.in-Ok-Some.field-0-is ∙ c.in-Ok-Some.ensures.value told) in
    let half = c.loop-at.invariant.half told in
    (half.done, (entry_there seen (get h entry) _ whole.1 (half_end bytes seen now c.loop-at.at half (omega (arith, c.loop-at-test.false, whole.0))), half.now_is))
