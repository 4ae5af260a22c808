-- Written out, so that an edit that turns it is refused at once (docs/CONTRIBUTING.md).
use Rattle.std.proofs.Common.{rules}
use Rattle.mi_wishes.proofs.own.Line.below.Goals as goal

pub returns-then-own-3 : goal.returns-then-own-3
returns-then-own-3 c = search rules

pub returns-else-own-3 : goal.returns-else-own-3
returns-else-own-3 c = search rules
