use Rattle.std.proofs.Common.{◌≡◌, ℕ, ◌-◌, List, ◌++◌, Err, length, length-append, take, drop, refl, sym, ap, subst, ◌∙◌, arith}
use Rattle.std.proofs.lemmas.Bool.{eqb-true}
use Rattle.std.specs.FinMap.{get, insert}
use Rattle.mi_volume.specs.Maps.{bytes_or_none}
use Rattle.mi_volume.proofs.Moments.{passes, then_passes}
use Rattle.mi_undo.proofs.FaultLemmas.{at_err, full_was, never_full}
use Rattle.mi_undo.proofs.StepLemmas.{only_looks, only_then, within_stays, within_put, no_more_held, no_more_longer}
use Rattle.mi_undo.proofs.SpanLemmas.{Added, added_start, more_read, piece_added, piece_fails, run_longer, run_whole, run_ended, read_is}
use Rattle.mi_undo.proofs.steps.append_span.Goals as goal

pub loop-at-init : goal.loop-at-init
loop-at-init g c = record {
  low = omega arith;
  high = λ less. absurd (omega arith);
  passes = record { later = omega arith; faults = omega arith; capacity = refl };
  added = λ told other before is.
      let none : c.args.at - c.args.at ≡ 0 = omega arith in
      subst (λ (k : ℕ). Added c.args.to.now before (take k (drop c.args.at (bytes_or_none (get (g.V.Volume.state c.args.vol.now).held c.args.from.now)))) (g.V.Volume.state c.args.vol.now) (g.V.Volume.state c.args.vol.now)) (sym none)
      (added_start (g.V.Volume.state c.args.vol.now) c.args.to.now before is);
  fits = λ told fits. fits;
}

pub returns-then-is_empty-clause-adds : goal.returns-then-is_empty-clause-adds
returns-then-is_empty-clause-adds g c = λ told other before is.
    let added = c.loop-at.invariant.added told other before is in
    let stays = c.read.ensures.stays told in
    let bytes = bytes_or_none (get (g.V.Volume.state c.args.vol.now).held c.args.from.now) in
    let same_bytes = ap bytes_or_none (added.only.others c.args.from.now other) in
    let nothing : length (take c.min-want.result (drop c.loop-at.at bytes)) ≡ 0 =
    ap (λ (b : List ℕ). length (take c.min-want.result (drop c.loop-at.at b))) (sym same_bytes) ∙ ap length (sym (c.in_ok-bytes.ensures.value told)) ∙ eqb-true (length c.in_ok-bytes.bytes) 0 (sym c.if-is_empty.ensures) in
    record {
      only = only_then _ (g.V.Volume.state c.loop-at.vol) _ _ added.only (only_looks _ _ _ c.read.ensures.moments stays);
      ok = stays.held ∙ added.held ∙ ap (λ (l : List ℕ). insert (g.V.Volume.state c.args.vol.now).held c.args.to.now (before ++ l))
          (run_ended bytes c.args.at c.loop-at.at c.min-want.result c.args.end c.loop-at.invariant.low (omega (arith, c.loop-at-test.true)) (omega (arith, c.min-want.ensures, c.loop-at-test.true)) nothing);
      most = no_more_longer (g.V.Volume.state c.args.vol.now) (g.V.Volume.state c.read.new.self) c.args.to.now _ _
          (let longer = run_longer (drop c.args.at bytes) (c.loop-at.at - c.args.at) (c.args.end - c.args.at) (omega (arith, c.loop-at-test.true)) in
          omega (arith, longer, length-append before (take (c.loop-at.at - c.args.at) (drop c.args.at bytes)), length-append before (take (c.args.end - c.args.at) (drop c.args.at bytes))))
          (no_more_held (g.V.Volume.state c.args.vol.now) (g.V.Volume.state c.read.new.self) c.args.to.now (before ++ take (c.loop-at.at - c.args.at) (drop c.args.at bytes)) (stays.held ∙ added.held));
      full = λ full. absurd (cc);
    }

pub returns-then-is_empty-clause-fits : goal.returns-then-is_empty-clause-fits
returns-then-is_empty-clause-fits g c = λ told fits. within_stays (g.V.Volume.state c.loop-at.vol) (g.V.Volume.state c.read.new.self) c.read.ensures.moments.capacity (c.read.ensures.stays told) (c.loop-at.invariant.fits told fits)

pub returns-in_err-bytes-clause-adds : goal.returns-in_err-bytes-clause-adds
returns-in_err-bytes-clause-adds g c = λ told other before is.
    let added = c.loop-at.invariant.added told other before is in
    record {
      only = only_then _ (g.V.Volume.state c.loop-at.vol) _ _ added.only (only_looks _ _ _ c.read.ensures.moments (c.read.ensures.stays told));
      ok = at_err _ c.from_residual.result c.from_residual.ensures.0;
      most =
          let bytes = bytes_or_none (get (g.V.Volume.state c.args.vol.now).held c.args.from.now) in
          no_more_longer (g.V.Volume.state c.args.vol.now) (g.V.Volume.state c.read.new.self) c.args.to.now _ _
          (let longer = run_longer (drop c.args.at bytes) (c.loop-at.at - c.args.at) (c.args.end - c.args.at) (omega (arith, c.loop-at-test.true)) in
          omega (arith, longer, length-append before (take (c.loop-at.at - c.args.at) (drop c.args.at bytes)), length-append before (take (c.args.end - c.args.at) (drop c.args.at bytes))))
          (no_more_held (g.V.Volume.state c.args.vol.now) (g.V.Volume.state c.read.new.self) c.args.to.now (before ++ take (c.loop-at.at - c.args.at) (drop c.args.at bytes)) ((c.read.ensures.stays told).held ∙ added.held));
      full = λ full. absurd (never_full c.from_residual.result c.in_err-bytes.field-0.0 c.from_residual.ensures.1 full);
    }

pub returns-in_err-append-clause-adds : goal.returns-in_err-append-clause-adds
returns-in_err-append-clause-adds g c = λ told other before is.
    piece_fails (g.V.Volume.state c.args.vol.now) (g.V.Volume.state c.loop-at.vol) (g.V.Volume.state c.read.new.self) (g.V.Volume.state c.append.new.self) c.args.to.now before c.args.from.now _ _ _ c.min-want.result _ _ _
    (c.loop-at.invariant.added told other before is) c.read.ensures.moments (c.read.ensures.stays told) other c.loop-at.invariant.low (omega (arith, c.min-want.ensures, c.loop-at-test.true))
    (c.as_slice.ensures ∙ c.in_ok-bytes.ensures.value told) c.append.ensures.moments (c.in_err-append.ensures.writes told) c.from_residual-in_err-append.ensures.0
    (λ full. ap Err (full_was c.from_residual-in_err-append.result c.in_err-append.field-0.0 c.from_residual-in_err-append.ensures.1 full))

pub loop-at-preserved : goal.loop-at-preserved
loop-at-preserved g c = record {
  low = omega (arith, c.loop-at.invariant.low);
  high = λ less. omega (arith, c.len.ensures, c.in_ok-bytes.ensures.short, c.min-want.ensures, c.loop-at-test.true);
  passes = then_passes _ _ _ c.loop-at.invariant.passes (then_passes _ _ _ (passes _ _ _ c.read.ensures.moments) (passes _ _ _ c.append.ensures.moments));
  added = λ told other before is.
      let added = c.loop-at.invariant.added told other before is in
      let writes = c.in_ok-append.ensures.writes told in
      let piece = more_read _ _ _ _ before _ added (c.read.ensures.stays told) _ _ _ _ c.len.result other c.loop-at.invariant.low (c.as_slice.ensures ∙ read_is _ _ _ c.len.result (c.in_ok-bytes.ensures.value told) c.len.ensures) in
      subst (λ (l : List ℕ). Added c.args.to.now before l (g.V.Volume.state c.args.vol.now) (g.V.Volume.state c.append.new.self)) piece
      (piece_added _ _ _ _ before _ _ added c.read.ensures.moments (c.read.ensures.stays told) _ c.append.ensures.moments writes.others writes.dirty writes.ok);
  fits = λ told fits. within_put (g.V.Volume.state c.read.new.self) (g.V.Volume.state c.append.new.self) c.args.to.now _ _ c.append.ensures.moments.capacity (c.in_ok-append.ensures.writes told);
}

pub returns-clause-adds : goal.returns-clause-adds
returns-clause-adds g c = λ told other before is.
    let added = c.loop-at.invariant.added told other before is in
    let whole = added.held ∙ run_whole _ _ _ _ _ c.loop-at.invariant.low c.loop-at.invariant.high c.loop-at-test.false in
    record {
      only = added.only;
      ok = whole;
      most = no_more_held (g.V.Volume.state c.args.vol.now) (g.V.Volume.state c.loop-at.vol) c.args.to.now _ whole;
      full = λ full. absurd (cc);
    }
