-- Written out, so that an edit that turns it is refused at once (docs/GATE.md).
use Rattle.std.proofs.Common.{rules}
use Rattle.mi_regval.proofs.lists.side_of.Goals as goal

pub returns-in-true-false : goal.returns-in-true-false
returns-in-true-false c = search rules
