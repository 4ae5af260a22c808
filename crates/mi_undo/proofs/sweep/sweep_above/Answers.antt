use Rattle.std.proofs.Common.{refl, sym, ◌∙◌}
use Rattle.mi_volume.proofs.Moments.{passes, then_passes}
use Rattle.mi_undo.proofs.SweepLemmas.{none_left, past_last, still_next, above_some, sweeping_looked, sweeping_step, swept_err, swept_looked, swept_all}
use Rattle.mi_undo.proofs.sweep.sweep_above.Goals as goal

pub returns-in_err-name-clause-swept : goal.returns-in_err-name-clause-swept
returns-in_err-name-clause-swept g c = λ told A is shut away.
    let s0 = g.V.Volume.state c.args.vol.now in let s = g.V.Volume.state c.loop.vol in let t = g.V.Volume.state c.next-found.new.self in
    swept_looked s0 t A c.loop.after c.from_residual.result (sweeping_looked s0 s t A c.loop.after (c.loop.invariant.sweeping told A is shut away) c.next-found.ensures.moments (c.next-found.ensures.stays told)) c.from_residual.ensures.0

pub returns-in_default-clause-swept : goal.returns-in_default-clause-swept
returns-in_default-clause-swept g c = λ told A is shut away.
    let s0 = g.V.Volume.state c.args.vol.now in let s = g.V.Volume.state c.loop.vol in let t = g.V.Volume.state c.next-found.new.self in
    let looked = sweeping_looked s0 s t A c.loop.after (c.loop.invariant.sweeping told A is shut away) c.next-found.ensures.moments (c.next-found.ensures.stays told) in
    swept_all s0 t A c.loop.after _ looked (none_left t.held c.loop.after looked.away (still_next s.held t.held c.loop.after _ (c.next-found.ensures.stays told).held (sym (c.in_ok-name.ensures.value told) ∙ c.in_default.is)))

pub returns-then-not-is_within-clause-swept : goal.returns-then-not-is_within-clause-swept
returns-then-not-is_within-clause-swept g c = λ told A is shut away.
    let s0 = g.V.Volume.state c.args.vol.now in let s = g.V.Volume.state c.loop.vol in let t = g.V.Volume.state c.next-found.new.self in
    let looked = sweeping_looked s0 s t A c.loop.after (c.loop.invariant.sweeping told A is shut away) c.next-found.ensures.moments (c.next-found.ensures.stays told) in
    swept_all s0 t A c.loop.after _ looked
    (past_last t.held c.loop.after looked.away c.in-Some.name (still_next s.held t.held c.loop.after _ (c.next-found.ensures.stays told).held (sym (c.in_ok-name.ensures.value told) ∙ c.in-Some.is))
    c.loop.invariant.inside (sym c.is_within.ensures ∙ c.if-not-is_within.true) (above_some _ c.loop.after c.in-Some.name c.in-Some.is c.in_ok-name.ensures.above))

pub returns-in_default-sweep_name-clause-swept : goal.returns-in_default-sweep_name-clause-swept
returns-in_default-sweep_name-clause-swept g c = λ told A is shut away.
    let s0 = g.V.Volume.state c.args.vol.now in let s = g.V.Volume.state c.loop.vol in let t = g.V.Volume.state c.next-found.new.self in let u = g.V.Volume.state c.sweep_name.new.vol in
    let looked = sweeping_looked s0 s t A c.loop.after (c.loop.invariant.sweeping told A is shut away) c.next-found.ensures.moments (c.next-found.ensures.stays told) in
    swept_err s0 t u A c.loop.after c.in-Some.name c.sweep_name.result _ looked (c.sweep_name.ensures.sweeps told A is (sym c.is_within.ensures ∙ c.if-not-is_within.false) looked.is_shut) refl

pub loop-preserved : goal.loop-preserved
loop-preserved g c = record {
  inside = sym c.is_within.ensures ∙ c.if-not-is_within.false;
  sweeping = λ told A is shut away.
      let s0 = g.V.Volume.state c.args.vol.now in let s = g.V.Volume.state c.loop.vol in let t = g.V.Volume.state c.next-found.new.self in let u = g.V.Volume.state c.sweep_name.new.vol in
      let looked = sweeping_looked s0 s t A c.loop.after (c.loop.invariant.sweeping told A is shut away) c.next-found.ensures.moments (c.next-found.ensures.stays told) in
      let sweeps = c.in-Ok.ensures.sweeps told A is (sym c.is_within.ensures ∙ c.if-not-is_within.false) looked.is_shut in
      sweeping_step s0 t u A c.loop.after c.in-Some.name looked (still_next s.held t.held c.loop.after _ (c.next-found.ensures.stays told).held (sym (c.in_ok-name.ensures.value told) ∙ c.in-Some.is)) sweeps.goes sweeps.is_shut sweeps.away sweeps.still;
  passes = then_passes _ _ _ (then_passes _ _ _ c.loop.invariant.passes (passes _ _ _ c.next-found.ensures.moments)) c.sweep_name.ensures.passes;
}

pub returns-clause-swept : goal.returns-clause-swept
returns-clause-swept g c = λ told A is shut away.
    swept_looked (g.V.Volume.state c.args.vol.now) (g.V.Volume.state c.loop.vol) A c.loop.after _ (c.loop.invariant.sweeping told A is shut away) refl
