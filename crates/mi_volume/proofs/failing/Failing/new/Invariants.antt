use Rattle.mi_volume.proofs.FailLemmas.{HasFirst}
use Rattle.mi_volume.proofs.failing.Failing.new.Given as goal

abbrev pub invariant-loop-number : goal.invariant-loop-number
invariant-loop-number l = HasFirst l.number-items l.number-index l.numbers
