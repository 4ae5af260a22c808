use Rattle.mi_cond.proofs.FrontFinds.{OperatorTo}
use Rattle.mi_cond.proofs.front.operator_at.Given as goal

abbrev pub invariant-loop-i : goal.invariant-loop-i
invariant-loop-i l = OperatorTo l.rest l.i
