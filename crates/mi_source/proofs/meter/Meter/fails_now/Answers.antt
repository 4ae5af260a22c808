-- Written out, so that an edit that turns it is refused at once (docs/GATE.md).
use Rattle.std.proofs.Common.{rules}
use Rattle.mi_source.proofs.meter.Meter.fails_now.Goals as goal

pub returns-then-fails-clause-next : goal.returns-then-fails-clause-next
returns-then-fails-clause-next c = search rules

pub returns-else-fails-clause-next : goal.returns-else-fails-clause-next
returns-else-fails-clause-next c = search rules
