-- Written out, so that an edit that turns it is refused at once (docs/CONTRIBUTING.md).
use Rattle.std.proofs.Common.{rules}
use Rattle.mi_commands.proofs.room.beyond.Goals as goal

pub returns-then-fits : goal.returns-then-fits
returns-then-fits c = search rules

pub returns-else-fits : goal.returns-else-fits
returns-else-fits c = search rules
