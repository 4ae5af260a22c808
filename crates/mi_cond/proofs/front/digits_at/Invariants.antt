use Rattle.mi_cond.proofs.FrontFinds.{DigitsTo}
use Rattle.mi_cond.proofs.front.digits_at.Given as goal

abbrev pub invariant-loop-i : goal.invariant-loop-i
invariant-loop-i l = DigitsTo l.negative l.rest l.from l.i l.size
