-- Written out, so that an edit that turns it is refused at once (docs/CONTRIBUTING.md).
use Rattle.std.proofs.Common.{rules}
use Rattle.mi_installs.proofs.leaders.is_written.Goals as goal

pub returns-else-called : goal.returns-else-called
returns-else-called c = search rules
