-- Written out, so that an edit that turns it is refused at once (docs/GATE.md).
use Rattle.std.proofs.Common.{rules}
use Rattle.mi_volume.proofs.room.size_after.Goals as goal

pub returns-then-size-capacity-clause-passes : goal.returns-then-size-capacity-clause-passes
returns-then-size-capacity-clause-passes c = search rules
