use Rattle.mi_undo.proofs.FaultLemmas.{at_err, full_was, never_full, fault_not_full}
use Rattle.mi_undo.proofs.SpanLemmas.{read_is}
use Rattle.mi_undo.proofs.StepLemmas.{only_looks, only_then}
use Rattle.mi_undo.proofs.ReturnLemmas.{returned_bytes, put_exceeds}
use Rattle.mi_undo.proofs.back.return_bytes.Goals as goal
use Rattle.std.proofs.Common.{Err, ap, arith, ◌∙◌}
use Rattle.std.specs.FinMap.{get}
use Rattle.mi_volume.specs.Maps.{bytes_or_none}

pub returns-in_err-bytes-clause-puts : goal.returns-in_err-bytes-clause-puts
returns-in_err-bytes-clause-puts g c = λ told ne. record {
  only = only_looks (g.V.Volume.state c.args.vol.now) (g.V.Volume.state c.read.new.self) c.args.name.now c.read.ensures.moments (c.read.ensures.stays told);
  ok = at_err _ c.from_residual.result c.from_residual.ensures.0;
  full = λ full. absurd (never_full c.from_residual.result c.in_err-bytes.field-0.0 c.from_residual.ensures.1 full);
  fits = λ within. at_err _ c.from_residual.result c.from_residual.ensures.0;
}

pub returns-in_err-put-clause-puts : goal.returns-in_err-put-clause-puts
returns-in_err-put-clause-puts g c = λ told ne.
    let w = c.put.ensures.writes told in
    record {
      only = only_then (g.V.Volume.state c.args.vol.now) (g.V.Volume.state c.read.new.self) (g.V.Volume.state c.put.new.self) c.args.name.now (only_looks _ _ c.args.name.now c.read.ensures.moments (c.read.ensures.stays told)) (record { goes = c.put.ensures.moments; others = w.others; dirty = w.dirty });
      ok = at_err _ c.from_residual-in_err-put.result c.from_residual-in_err-put.ensures.0;
      full = λ full. put_exceeds (g.V.Volume.state c.args.vol.now) (g.V.Volume.state c.read.new.self) c.args.name.now (bytes_or_none (get (g.V.Volume.state c.args.vol.now).held c.args.entry.now)) c.as_slice.result.now c.args.at c.min-first.result c.args.end
          c.read.ensures.moments (c.read.ensures.stays told) (c.as_slice.ensures ∙ c.in_ok-bytes.ensures.value told) (omega (arith, c.saturating_sub.ensures, c.min-first.ensures))
          ((c.in_err-put.ensures.writes told).exceeds (ap Err (full_was c.from_residual-in_err-put.result c.in_err-put.field-0.0 c.from_residual-in_err-put.ensures.1 full)));
      fits = λ within. at_err _ c.from_residual-in_err-put.result c.from_residual-in_err-put.ensures.0;
    }

pub returns-in_err-uncounted-clause-puts : goal.returns-in_err-uncounted-clause-puts
returns-in_err-uncounted-clause-puts g c = λ told ne.
    let r = c.from_residual-in_err-uncounted in
    let puts = returned_bytes (g.V.Volume.state c.args.vol.now) (g.V.Volume.state c.read.new.self) (g.V.Volume.state c.put.new.self) (g.V.Volume.state c.append_span-rest.new.vol) c.args.name.now c.args.entry.now c.as_slice.result.now c.args.at c.len.result c.args.end c.append_span-rest.result _
    c.read.ensures.moments (c.read.ensures.stays told) (c.as_slice.ensures ∙ read_is _ _ _ c.len.result (c.in_ok-bytes.ensures.value told) c.len.ensures) c.put.ensures.moments (c.in_ok-put.ensures.writes told) ne
    (λ before is. c.append_span-rest.ensures.adds told ne before is) (c.append_span-rest.ensures.fits told) (omega (arith, c.saturating_sub.ensures, c.min-first.ensures, c.len.ensures, c.in_ok-bytes.ensures.short)) in
    record {
      only = puts.only;
      ok = at_err _ r.result r.ensures.0;
      full = λ full. absurd (fault_not_full r.result r.ensures.1 full);
      fits = λ within. at_err _ r.result r.ensures.0;
    }

pub returns-clause-puts : goal.returns-clause-puts
returns-clause-puts g c = λ told ne.
    returned_bytes (g.V.Volume.state c.args.vol.now) (g.V.Volume.state c.read.new.self) (g.V.Volume.state c.put.new.self) (g.V.Volume.state c.append_span-rest.new.vol) c.args.name.now c.args.entry.now c.as_slice.result.now c.args.at c.len.result c.args.end c.append_span-rest.result _
    c.read.ensures.moments (c.read.ensures.stays told) (c.as_slice.ensures ∙ read_is _ _ _ c.len.result (c.in_ok-bytes.ensures.value told) c.len.ensures) c.put.ensures.moments (c.in_ok-put.ensures.writes told) ne
    (λ before is. c.append_span-rest.ensures.adds told ne before is) (c.append_span-rest.ensures.fits told) (omega (arith, c.saturating_sub.ensures, c.min-first.ensures, c.len.ensures, c.in_ok-bytes.ensures.short))
