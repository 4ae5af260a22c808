-- Written out, so that an edit that turns it is refused at once (docs/CONTRIBUTING.md).
use Rattle.std.proofs.Common.{rules}
use Rattle.mi_seq_rows.proofs.row.seat_of.Goals as goal

pub returns-in-Some : goal.returns-in-Some
returns-in-Some c = search rules
