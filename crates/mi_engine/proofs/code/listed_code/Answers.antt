-- Written out, so that an edit that turns it is refused at once (docs/CONTRIBUTING.md).
use Rattle.std.proofs.Common.{rules}
use Rattle.mi_engine.proofs.code.listed_code.Goals as goal

pub returns-then-log_lost : goal.returns-then-log_lost
returns-then-log_lost c = search rules
