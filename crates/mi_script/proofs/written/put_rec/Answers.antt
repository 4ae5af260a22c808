-- Written out, so that an edit that turns it is refused at once (docs/GATE.md).
use Rattle.std.proofs.Common.{arith}
use Rattle.std.proofs.lemmas.Grind.{common_steps}
use Rattle.mi_script.specs.Written.{written_rec}
use Rattle.mi_script.proofs.written.put_rec.Goals as goal

pub returns-in_ok-push-in-Drop : goal.returns-in_ok-push-in-Drop
unfolding written_rec
returns-in_ok-push-in-Drop c = grind (arith, common_steps)
