-- Written out, so that an edit that turns it is refused at once (docs/CONTRIBUTING.md).
use Rattle.std.proofs.Common.{rules}
use Rattle.mi_steps.proofs.prune.keeping.Goals as goal

pub returns-in-Leaf : goal.returns-in-Leaf
returns-in-Leaf c = search rules
