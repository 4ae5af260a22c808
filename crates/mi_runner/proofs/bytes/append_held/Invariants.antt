use Rattle.std.proofs.Common.{◌-◌}
use Rattle.mi_runner.proofs.AppendLemmas.{Appending}
use Rattle.mi_runner.proofs.bytes.append_held.Given as goal

abbrev pub invariant-loop-at : goal.invariant-loop-at
invariant-loop-at g l = Appending g.V.Volume.told g.V.Volume.state l.fn.area l.area l.name l.from l.fn.at l.at l.end

abbrev pub decreases-loop-at : goal.decreases-loop-at
decreases-loop-at g l = l.end - l.at
