-- Written out, so that an edit that turns it is refused at once (docs/CONTRIBUTING.md).
use Rattle.std.proofs.Common.{rules}
use Rattle.mi_seq_rows.proofs.stage.Stage.is_inside.Goals as goal

pub returns-then-self : goal.returns-then-self
returns-then-self c = search rules
