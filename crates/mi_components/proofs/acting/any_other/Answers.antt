-- Written out, so that an edit that turns it is refused at once (docs/CONTRIBUTING.md).
use Rattle.std.proofs.Common.{arith}
use Rattle.std.proofs.lemmas.Grind.{common_steps}
use Rattle.mi_components.proofs.acting.any_other.Goals as goal

pub returns-then-client-code : goal.returns-then-client-code
returns-then-client-code c = grind (arith, common_steps)

pub loop-client-preserved : goal.loop-client-preserved
loop-client-preserved c = grind (arith, common_steps)
