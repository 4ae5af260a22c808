-- Written out, so that an edit that turns it is refused at once (docs/CONTRIBUTING.md).
use Rattle.std.proofs.Common.{rules}
use Rattle.mi_held.proofs.held.is_above.Goals as goal

pub returns-in-Less : goal.returns-in-Less
returns-in-Less c = search rules
