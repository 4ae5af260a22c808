use Rattle.mi_volume.proofs.Moments.{passes, then_passes}
use Rattle.std.proofs.Common.{refl, sym, ap, ◌∙◌, arith}
use Rattle.std.specs.Ordering.{is_gt, ordering_reverse}
use Rattle.mi_text.proofs.MapLemmas.{names_total}
use Rattle.mi_undo.specs.Names.{is_entry_like}
use Rattle.mi_undo.proofs.SweepLemmas.{still_next, above_some}
use Rattle.mi_undo.proofs.SpareLemmas.{spares_start, spares_then, spares_looked}
use Rattle.mi_undo.proofs.EntryNumbers.{gone_start, gone_same, none_behind, past_entries, gone_more}
use Rattle.mi_undo.proofs.unread.remove_unread.Goals as goal

pub returns-in_err-name-clause-spares : goal.returns-in_err-name-clause-spares
returns-in_err-name-clause-spares g c = λ told F ns spare.
    let far = c.loop.invariant.spares told F ns spare in
    spares_then (g.V.Volume.state c.args.vol.now) (g.V.Volume.state c.loop.vol) (g.V.Volume.state c.next-found.new.self) F ns c.args.entries far (spares_looked (g.V.Volume.state c.loop.vol) (g.V.Volume.state c.next-found.new.self) F ns c.args.entries far.spare c.next-found.ensures.moments (c.next-found.ensures.stays told))

pub returns-in_default-clause-spares : goal.returns-in_default-clause-spares
returns-in_default-clause-spares g c = λ told F ns spare.
    let far = c.loop.invariant.spares told F ns spare in
    spares_then (g.V.Volume.state c.args.vol.now) (g.V.Volume.state c.loop.vol) (g.V.Volume.state c.next-found.new.self) F ns c.args.entries far (spares_looked (g.V.Volume.state c.loop.vol) (g.V.Volume.state c.next-found.new.self) F ns c.args.entries far.spare c.next-found.ensures.moments (c.next-found.ensures.stays told))

pub returns-then-not-is_entry_like-clause-spares : goal.returns-then-not-is_entry_like-clause-spares
returns-then-not-is_entry_like-clause-spares g c = λ told F ns spare.
    let far = c.loop.invariant.spares told F ns spare in
    spares_then (g.V.Volume.state c.args.vol.now) (g.V.Volume.state c.loop.vol) (g.V.Volume.state c.next-found.new.self) F ns c.args.entries far (spares_looked (g.V.Volume.state c.loop.vol) (g.V.Volume.state c.next-found.new.self) F ns c.args.entries far.spare c.next-found.ensures.moments (c.next-found.ensures.stays told))

pub returns-in_default-remove_entry-clause-spares : goal.returns-in_default-remove_entry-clause-spares
returns-in_default-remove_entry-clause-spares g c = λ told F ns spare.
    let far = c.loop.invariant.spares told F ns spare in
    let looked = spares_then (g.V.Volume.state c.args.vol.now) (g.V.Volume.state c.loop.vol) (g.V.Volume.state c.next-found.new.self) F ns c.args.entries far (spares_looked (g.V.Volume.state c.loop.vol) (g.V.Volume.state c.next-found.new.self) F ns c.args.entries far.spare c.next-found.ensures.moments (c.next-found.ensures.stays told)) in
    spares_then (g.V.Volume.state c.args.vol.now) (g.V.Volume.state c.next-found.new.self) (g.V.Volume.state c.remove_entry.new.vol) F ns c.args.entries looked (c.remove_entry.ensures.spares told F ns looked.spare)

pub loop-init : goal.loop-init
loop-init g c = record {
  spares = λ told F ns spare. spares_start (g.V.Volume.state c.args.vol.now) F ns c.args.entries spare;
  like = ap is_entry_like c.in_ok-after.ensures;
  gone = λ told. gone_start (g.V.Volume.state c.args.vol.now).held c.args.entries c.in_ok-after.after c.in_ok-after.ensures;
  passes = record { later = omega arith; faults = omega arith; capacity = refl };
}

pub returns-in_default-clause-away : goal.returns-in_default-clause-away
returns-in_default-clause-away g c = λ told.
    let s = g.V.Volume.state c.loop.vol in let t = g.V.Volume.state c.next-found.new.self in
    let held = (c.next-found.ensures.stays told).held in
    none_behind t.held c.args.entries c.loop.after (gone_same s.held t.held c.args.entries c.loop.after held (c.loop.invariant.gone told)) (still_next s.held t.held c.loop.after _ held (sym (c.in_ok-name.ensures.value told) ∙ c.in_default.is))

pub returns-then-not-is_entry_like-clause-away : goal.returns-then-not-is_entry_like-clause-away
returns-then-not-is_entry_like-clause-away g c = λ told.
    let s = g.V.Volume.state c.loop.vol in let t = g.V.Volume.state c.next-found.new.self in
    let held = (c.next-found.ensures.stays told).held in
    let above = above_some _ c.loop.after c.in-Some.name c.in-Some.is c.in_ok-name.ensures.above in
    past_entries t.held c.args.entries c.loop.after (gone_same s.held t.held c.args.entries c.loop.after held (c.loop.invariant.gone told)) c.in-Some.name (still_next s.held t.held c.loop.after _ held (sym (c.in_ok-name.ensures.value told) ∙ c.in-Some.is))
    c.loop.invariant.like (sym c.is_entry_like.ensures ∙ c.if-not-is_entry_like.true) (ap is_gt (names_total.antisymm c.in-Some.name c.loop.after ∙ ap ordering_reverse above))

pub loop-preserved : goal.loop-preserved
loop-preserved g c = record {
  spares = λ told F ns spare.
      let far = c.loop.invariant.spares told F ns spare in
      let looked = spares_then (g.V.Volume.state c.args.vol.now) (g.V.Volume.state c.loop.vol) (g.V.Volume.state c.next-found.new.self) F ns c.args.entries far (spares_looked (g.V.Volume.state c.loop.vol) (g.V.Volume.state c.next-found.new.self) F ns c.args.entries far.spare c.next-found.ensures.moments (c.next-found.ensures.stays told)) in
      spares_then (g.V.Volume.state c.args.vol.now) (g.V.Volume.state c.next-found.new.self) (g.V.Volume.state c.remove_entry.new.vol) F ns c.args.entries looked (c.remove_entry.ensures.spares told F ns looked.spare);
  like = sym c.is_entry_like.ensures ∙ c.if-not-is_entry_like.false;
  gone = λ told.
      let s = g.V.Volume.state c.loop.vol in let t = g.V.Volume.state c.next-found.new.self in
      let held = (c.next-found.ensures.stays told).held in
      gone_more t.held c.args.entries c.loop.after (gone_same s.held t.held c.args.entries c.loop.after held (c.loop.invariant.gone told)) c.in-Some.name (still_next s.held t.held c.loop.after _ held (sym (c.in_ok-name.ensures.value told) ∙ c.in-Some.is))
      (g.V.Volume.state c.remove_entry.new.vol).held (c.in-Ok.ensures.away told) (c.in-Ok.ensures.still told);
  passes = then_passes _ _ _ (then_passes _ _ _ c.loop.invariant.passes (passes _ _ _ c.next-found.ensures.moments)) c.remove_entry.ensures.passes;
}
