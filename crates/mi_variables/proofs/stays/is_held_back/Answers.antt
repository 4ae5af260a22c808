-- Written out, so that an edit that turns it is refused at once (docs/CONTRIBUTING.md).
use Rattle.std.proofs.Common.{rules}
use Rattle.mi_variables.proofs.stays.is_held_back.Goals as goal

pub returns-then-leaving : goal.returns-then-leaving
returns-then-leaving c = search rules

pub returns-else-leaving : goal.returns-else-leaving
returns-else-leaving c = search rules
