-- Written out, so that an edit that turns it is refused at once (docs/GATE.md).
use Rattle.std.proofs.Common.{rules}
use Rattle.mi_cond.proofs.bracket.Bracket.join.Goals as goal

pub returns-in-And : goal.returns-in-And
returns-in-And c = search rules
