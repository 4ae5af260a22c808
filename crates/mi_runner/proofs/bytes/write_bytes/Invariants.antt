use Rattle.std.proofs.Common.{◌-◌, ◌≤◌, length, take}
use Rattle.mi_runner.proofs.StepLemmas.{Wrote}
use Rattle.mi_runner.proofs.bytes.write_bytes.Given as goal

abbrev pub invariant-loop-written : goal.invariant-loop-written
invariant-loop-written g l = record {
  wrote : Wrote g.V.Volume.told g.V.Volume.state l.fn.area l.area l.name (take l.written l.bytes);
  within : l.written ≤ length l.bytes;
}

abbrev pub decreases-loop-written : goal.decreases-loop-written
decreases-loop-written g l = length l.bytes - l.written
