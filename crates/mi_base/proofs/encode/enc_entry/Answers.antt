-- Written out, so that an edit that turns it is refused at once (docs/GATE.md).
use Rattle.std.proofs.Common.{rules}
use Rattle.mi_base.proofs.encode.enc_entry.Goals as goal

pub returns-then-not-fits-clause-field : goal.returns-then-not-fits-clause-field
returns-then-not-fits-clause-field c = search rules
