-- Written out, so that an edit that turns it is refused at once (docs/GATE.md).
use Rattle.std.proofs.Common.{rules}
use Rattle.mi_source.proofs.mem_sink.MemSinkSink.write.Goals as goal

pub returns-then-fails_now-clause-fails : goal.returns-then-fails_now-clause-fails
returns-then-fails_now-clause-fails c = search rules

pub returns-then-fails_now-clause-meter : goal.returns-then-fails_now-clause-meter
returns-then-fails_now-clause-meter c = search rules
