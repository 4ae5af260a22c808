-- Written out, so that an edit that turns it is refused at once (docs/CONTRIBUTING.md).
use Rattle.std.proofs.Common.{rules}
use Rattle.mi_cost.proofs.scripts.add.Goals as goal

pub returns-clause-entries : goal.returns-clause-entries
returns-clause-entries c = search rules
