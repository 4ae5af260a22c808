-- Written out, so that an edit that turns it is refused at once (docs/CONTRIBUTING.md).
use Rattle.std.proofs.Common.{rules}
use Rattle.mi_steps.proofs.prune.goes.Goals as goal

pub returns-in-Holder : goal.returns-in-Holder
returns-in-Holder c = search rules
