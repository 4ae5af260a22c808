-- Written out, so that an edit that turns it is refused at once (docs/CONTRIBUTING.md).
use Rattle.std.proofs.Common.{rules}
use Rattle.mi_seq_rows.proofs.custom.may_stand.Goals as goal

pub returns-then-stage : goal.returns-then-stage
returns-then-stage c = search rules

pub returns-else-stage : goal.returns-else-stage
returns-else-stage c = search rules
