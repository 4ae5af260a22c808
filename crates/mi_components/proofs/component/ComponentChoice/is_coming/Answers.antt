-- Written out, so that an edit that turns it is refused at once (docs/CONTRIBUTING.md).
use Rattle.std.proofs.Common.{rules}
use Rattle.mi_components.proofs.component.ComponentChoice.is_coming.Goals as goal

pub returns-after-has_attribute : goal.returns-after-has_attribute
returns-after-has_attribute c = search rules
