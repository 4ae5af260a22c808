-- Written out, so that an edit that turns it is refused at once (docs/CONTRIBUTING.md).
use Rattle.std.proofs.Common.{rules}
use Rattle.mi_seq_rows.proofs.row.if_holds.Goals as goal

pub returns-else-holds : goal.returns-else-holds
returns-else-holds c = search rules
