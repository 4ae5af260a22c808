use Rattle.mi_patterns.specs.Walks.{Stands, work}
use Rattle.mi_patterns.proofs.walk.matches.Given as goal

abbrev pub invariant-loop-c : goal.invariant-loop-c
invariant-loop-c l = Stands l.fn.pattern l.fn.text l.walk

abbrev pub decreases-loop-c : goal.decreases-loop-c
decreases-loop-c l = work l.fn.pattern l.fn.text l.walk
