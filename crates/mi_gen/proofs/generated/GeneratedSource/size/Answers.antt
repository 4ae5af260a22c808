-- Written out, so that an edit that turns it is refused at once (docs/CONTRIBUTING.md).
use Rattle.std.proofs.Common.{rules}
use Rattle.mi_gen.proofs.generated.GeneratedSource.size.Goals as goal

pub returns-clause-value : goal.returns-clause-value
returns-clause-value c = search rules
