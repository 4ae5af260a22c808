use Rattle.std.proofs.Common.{◌-◌, length}
use Rattle.mi_cond.specs.States.{state_of}
use Rattle.mi_cond.proofs.ReadLaws.{ReadsValue}
use Rattle.mi_cond.proofs.read.read_value.Given as goal

abbrev pub invariant-loop-at : goal.invariant-loop-at
invariant-loop-at g l = ReadsValue (g.E.Env.lookups l.env) l.text l.at (state_of l.reader)

abbrev pub decreases-loop-at : goal.decreases-loop-at
decreases-loop-at g l = length l.text - l.at
