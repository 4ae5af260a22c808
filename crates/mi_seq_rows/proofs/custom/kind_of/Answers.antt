-- Written out, so that an edit that turns it is refused at once (docs/CONTRIBUTING.md).
use Rattle.std.proofs.Common.{rules}
use Rattle.mi_seq_rows.proofs.custom.kind_of.Goals as goal

pub returns-then-bits-ne0 : goal.returns-then-bits-ne0
returns-then-bits-ne0 c = search rules

pub returns-in-19 : goal.returns-in-19
returns-in-19 c = search rules

pub returns-in-35 : goal.returns-in-35
returns-in-35 c = search rules

pub returns-in-51 : goal.returns-in-51
returns-in-51 c = search rules
