-- Written out, so that an edit that turns it is refused at once (docs/GATE.md).
use Rattle.std.proofs.Common.{rules}
use Rattle.mi_format.proofs.expansion.within.Goals as goal

pub returns-in-Whole-2 : goal.returns-in-Whole-2
returns-in-Whole-2 c = search rules
