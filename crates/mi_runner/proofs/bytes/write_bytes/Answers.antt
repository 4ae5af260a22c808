use Rattle.std.proofs.Common.{◌+◌, length, take, ◌∙◌, ap, arith, lit<, List, ℕ}
use Rattle.std.proofs.lemmas.Result.{err_from_is_err_and}
use Rattle.std.proofs.lemmas.List.{take_all}
use Rattle.std.specs.FinMap.{insert}
use Rattle.mi_volume.specs.declared.volume.TheConstants.{PIECE}
use Rattle.mi_undo.specs.declared.fault.OpFault.TheVariants as op
use Rattle.mi_runner.proofs.PieceLemmas.{first_front, next_front}
use Rattle.mi_runner.proofs.RecordLemmas.{noted_outside}
use Rattle.mi_runner.proofs.StepLemmas.{held_is, writes_ok, writes_then, write_failed, wrote_more}
use Rattle.mi_runner.proofs.AppendLemmas.{first_wrote, piece_small, wrote_within, run_short}
use Rattle.mi_runner.proofs.bytes.write_bytes.Goals as goal

pub returns-in_err-put-clause-writes : goal.returns-in_err-put-clause-writes
returns-in_err-put-clause-writes g c =
    let p = err_from_is_err_and c.from_residual.result c.from_residual.ensures.1 in
    let front = first_front c.piece_at-first.result.now c.args.bytes.now PIECE (lit< tt) c.piece_at-first.ensures.piece in
    let e = c.in_err-put.ensures in
    rw (p.1, p.2) (write_failed g.V.Volume.told g.V.Volume.state c.args.area.now c.put.new.self c.args.name.now c.piece_at-first.result.now (length c.args.name.now + length c.args.bytes.now) c.in_err-put.field-0.0
    (record { reference = e.reference; kept = e.kept; changes = e.changes; room = e.room; others = e.others; passes = e.passes })
    e.live e.fault e.full (λ t. omega (arith, front.1)) e.stays)

pub loop-written-init : goal.loop-written-init
loop-written-init g c =
    let front = first_front c.piece_at-first.result.now c.args.bytes.now PIECE (lit< tt) c.piece_at-first.ensures.piece in
    let e = c.in_ok-put.ensures in
    record {
      wrote = first_wrote g.V.Volume.told g.V.Volume.state c.args.area.now c.put.new.self c.args.name.now c.args.bytes.now c.piece_at-first.result.now front.0
          (record { reference = e.reference; kept = e.kept; changes = e.changes; room = e.room; others = e.others; passes = e.passes }) e.working
          (λ t. held_is _ _ c.args.name.now c.piece_at-first.result.now (noted_outside _ c.args.name.now c.requires.working.outside c.requires.noted) (e.others t) (e.map t));
      within = front.1;
    }

pub returns-in_err-append-clause-writes : goal.returns-in_err-append-clause-writes
returns-in_err-append-clause-writes g c =
    let p = err_from_is_err_and c.from_residual-in_err-append.result c.from_residual-in_err-append.ensures.1 in
    let part = next_front c.piece_at-piece.result.now c.args.bytes.now c.loop-written.written PIECE (lit< tt) c.loop-written-test.true c.piece_at-piece.ensures.piece in
    let e = c.in_err-append.ensures in
    let wrote = c.loop-written.invariant.wrote in
    let short = run_short c.loop-written.written c.args.bytes.now in
    rw (p.1, p.2) (writes_then g.V.Volume.told g.V.Volume.state c.args.area.now c.loop-written.area c.append.new.self c.args.name.now (length c.args.name.now + length c.args.bytes.now) op.Fault op.Full _ wrote.keeps
    (wrote_within g.V.Volume.told g.V.Volume.state c.args.area.now c.loop-written.area c.args.name.now (take c.loop-written.written c.args.bytes.now) (length c.args.bytes.now) wrote (omega (arith, short, c.loop-written.invariant.within)))
    (write_failed g.V.Volume.told g.V.Volume.state c.loop-written.area c.append.new.self c.args.name.now _ (length c.args.name.now + length c.args.bytes.now) c.in_err-append.field-0.0
    (record { reference = e.reference; kept = e.kept; changes = e.changes; room = e.room; others = e.others; passes = e.passes })
    e.live e.fault e.full
    (piece_small g.V.Volume.told g.V.Volume.state c.args.area.now c.loop-written.area c.args.name.now (take c.loop-written.written c.args.bytes.now) c.piece_at-piece.result.now (length c.args.bytes.now) wrote (omega (arith, short, part.1)))
    e.stays))

pub loop-written-smaller : goal.loop-written-smaller
loop-written-smaller g c =
    let part = next_front c.piece_at-piece.result.now c.args.bytes.now c.loop-written.written PIECE (lit< tt) c.loop-written-test.true c.piece_at-piece.ensures.piece in
    omega (arith, part, c.loop-written-test.true)

pub loop-written-preserved : goal.loop-written-preserved
loop-written-preserved g c =
    let part = next_front c.piece_at-piece.result.now c.args.bytes.now c.loop-written.written PIECE (lit< tt) c.loop-written-test.true c.piece_at-piece.ensures.piece in
    let e = c.in_ok-append.ensures in
    let wrote = c.loop-written.invariant.wrote in
    record {
      wrote = rw (← part.0) (wrote_more g.V.Volume.told g.V.Volume.state c.args.area.now c.loop-written.area c.append.new.self c.args.name.now (take c.loop-written.written c.args.bytes.now) c.piece_at-piece.result.now wrote
          (record { reference = e.reference; kept = e.kept; changes = e.changes; room = e.room; others = e.others; passes = e.passes }) e.working
          (λ t. held_is _ _ c.args.name.now _ (noted_outside _ c.args.name.now c.requires.working.outside c.requires.noted) (e.others t) (e.map t)));
      within = part.1;
    }

pub returns-clause-writes : goal.returns-clause-writes
returns-clause-writes g c =
    let wrote = c.loop-written.invariant.wrote in
    let short = run_short c.loop-written.written c.args.bytes.now in
    writes_ok g.V.Volume.told g.V.Volume.state c.args.area.now c.loop-written.area c.args.name.now (length c.args.name.now + length c.args.bytes.now) op.Fault op.Full _ wrote.keeps wrote.working
    (wrote_within g.V.Volume.told g.V.Volume.state c.args.area.now c.loop-written.area c.args.name.now (take c.loop-written.written c.args.bytes.now) (length c.args.bytes.now) wrote (omega (arith, short, c.loop-written.invariant.within)))

pub returns-clause-map : goal.returns-clause-map
returns-clause-map g c = λ told.
    c.loop-written.invariant.wrote.held told ∙ ap (λ (l : List ℕ). insert (g.V.Volume.state c.args.area.now.vol.now).held c.args.name.now l) (take_all c.loop-written.written c.args.bytes.now c.loop-written-test.false)
