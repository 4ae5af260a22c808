-- Written out, so that an edit that turns it is refused at once (docs/GATE.md).
use Rattle.std.proofs.Common.{rules}
use Rattle.mi_format.proofs.depth.passes.Goals as goal

pub returns-in-Open : goal.returns-in-Open
returns-in-Open c = search rules
