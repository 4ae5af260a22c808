-- Written out, so that an edit that turns it is refused at once (docs/CONTRIBUTING.md).
use Rattle.std.proofs.Common.{rules}
use Rattle.mi_variables.proofs.stays.has_another_value.Goals as goal

pub returns : goal.returns
returns c = search rules
