use Rattle.std.proofs.Common.{◌≡◌, length, ap, ◌∙◌, arith}
use Rattle.mi_undo.specs.Entry.{note_for}
use Rattle.mi_undo.proofs.FaultLemmas.{value_at_err, fault_not_full}
use Rattle.mi_undo.proofs.GatherLemmas.{gathers_as, gathers_ok, memory_failed}
use Rattle.mi_undo.proofs.EntryLemmas.{note_gathered, placed_is, end_is, old_fits}
use Rattle.mi_undo.proofs.entry.write_note.Goals as goal

pub returns-in_err-gather_note-clause-writes : goal.returns-in_err-gather_note-clause-writes
returns-in_err-gather_note-clause-writes g c = λ told ne before is.
    let stays = c.size.ensures.stays told in
    let len = c.in_ok-len.ensures.value told in
    let r = c.from_residual-in_err-gather_note in
    record {
      gathers = note_gathered (g.V.Volume.state c.args.vol.now) (g.V.Volume.state c.size.new.self) (g.V.Volume.state c.gather_note.new.vol) c.args.entry.now before c.args.pending.now c.gather_note.new.pending c.args.name.now c.as_slice.result.now c.in_ok-len.len r.result
          c.size.ensures.moments stays len (c.as_slice.ensures ∙ c.in_ok-head.ensures.value) is
          (λ long held. gathers_as _ _ _ _ _ _ _ _ _ r.result _ (c.in_err-gather_note.ensures.gathers told ne (c.unwrap_or.ensures ∙ long) before held) r.ensures.1 r.ensures.0 (omega arith));
      place = value_at_err r.result _ r.ensures.0;
      end_is = value_at_err r.result _ r.ensures.0;
      fits = value_at_err r.result _ r.ensures.0;
    }

pub returns-in_err-uncounted-clause-writes : goal.returns-in_err-uncounted-clause-writes
returns-in_err-uncounted-clause-writes g c = λ told ne before is.
    let stays = c.size.ensures.stays told in
    let len = c.in_ok-len.ensures.value told in
    let r = c.from_residual-in_err-uncounted in
    record {
      gathers = note_gathered (g.V.Volume.state c.args.vol.now) (g.V.Volume.state c.size.new.self) (g.V.Volume.state c.gather_note.new.vol) c.args.entry.now before c.args.pending.now c.gather_note.new.pending c.args.name.now c.as_slice.result.now c.in_ok-len.len r.result
          c.size.ensures.moments stays len (c.as_slice.ensures ∙ c.in_ok-head.ensures.value) is
          (λ long held. memory_failed _ _ _ _ _ _ _ _ _ _ r.result (c.in_ok-gather_note.ensures.gathers told ne (c.unwrap_or.ensures ∙ long) before held) (omega arith) r.ensures.0 (fault_not_full r.result r.ensures.1));
      place = value_at_err r.result _ r.ensures.0;
      end_is = value_at_err r.result _ r.ensures.0;
      fits = value_at_err r.result _ r.ensures.0;
    }

pub returns-clause-writes : goal.returns-clause-writes
returns-clause-writes g c = λ told ne before is.
    let stays = c.size.ensures.stays told in
    let len = c.in_ok-len.ensures.value told in
    let head : c.len.result ≡ length _ = c.len.ensures ∙ ap length c.in_ok-head.ensures.value in
    record {
      gathers = note_gathered (g.V.Volume.state c.args.vol.now) (g.V.Volume.state c.size.new.self) (g.V.Volume.state c.gather_note.new.vol) c.args.entry.now before c.args.pending.now c.gather_note.new.pending c.args.name.now c.as_slice.result.now c.in_ok-len.len _
          c.size.ensures.moments stays len (c.as_slice.ensures ∙ c.in_ok-head.ensures.value) is
          (λ long held. gathers_ok _ _ _ _ _ _ _ _ _ (c.in_ok-gather_note.ensures.gathers told ne (c.unwrap_or.ensures ∙ long) before held));
      place = c.in_ok-placed.ensures.place ∙ placed_is _ _ _ _ _ _ len head;
      end_is = c.in_ok-placed.ensures.end_is ∙ end_is c.args.at (note_for (g.V.Volume.state c.args.vol.now).held c.args.name.now) _ _ len head;
      fits = old_fits _ _ len c.in_ok-placed.ensures.fits;
    }
