-- Written out, so that an edit that turns it is refused at once (docs/CONTRIBUTING.md).
use Rattle.std.proofs.Common.{rules}
use Rattle.mi_components.proofs.component.ComponentChoice.is_leaving.Goals as goal

pub returns-then-not-self : goal.returns-then-not-self
returns-then-not-self c = search rules

pub returns-else-not-self : goal.returns-else-not-self
returns-else-not-self c = search rules
