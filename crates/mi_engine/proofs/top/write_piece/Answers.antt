use Rattle.mi_engine.proofs.TopLemmas.{front_written}
use Rattle.mi_engine.proofs.top.write_piece.Goals as goal

pub returns-clause-front : goal.returns-clause-front
returns-clause-front g c = λ told. front_written c.write.result (g.K.Sink.written c.args.out.now) (g.K.Sink.written c.write.new.self) c.args.piece.now (c.write.ensures.whole told) (c.write.ensures.front told)
