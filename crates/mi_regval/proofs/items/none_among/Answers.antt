-- Written out, so that an edit that turns it is refused at once (docs/GATE.md).
use Rattle.std.proofs.Common.{arith}
use Rattle.std.proofs.lemmas.Grind.{common_steps}
use Rattle.mi_regval.proofs.items.none_among.Goals as goal

pub returns-then-contains : goal.returns-then-contains
returns-then-contains c = grind (arith, common_steps)
