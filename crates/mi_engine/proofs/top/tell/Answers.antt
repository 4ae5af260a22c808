use Rattle.std.proofs.Common.{refl}
use Rattle.mi_report.specs.WalkLogs.{line_text}
use Rattle.mi_engine.proofs.TopLemmas.{first_written, both_written}
use Rattle.mi_engine.proofs.top.tell.Goals as goal

pub returns-then-write_piece-clause-front : goal.returns-then-write_piece-clause-front
returns-then-write_piece-clause-front g c = λ told.
    let log = c.args.log.now in
    first_written c.as_slice.result.now log.front (line_text log.line) (g.K.Sink.written c.args.out.now) (g.K.Sink.written c.write_piece.new.out) c.as_slice.ensures (c.write_piece.ensures.front told)

pub returns-clause-front : goal.returns-clause-front
returns-clause-front g c = λ told.
    let log = c.args.log.now in
    both_written c.as_slice.result.now log.front c.as_slice-2.result.now (line_text log.line) (g.K.Sink.written c.args.out.now) (g.K.Sink.written c.write_piece.new.out) (g.K.Sink.written c.write_piece-2.new.out) c.as_slice.ensures c.as_slice-2.ensures (c.if-write_piece.ensures.written told refl) (c.write_piece-2.ensures.front told)
