use Rattle.mi_cond.proofs.Digits.{IsNumber}
use Rattle.mi_cond.proofs.compare.small_integer.Given as goal

abbrev pub invariant-loop-digit : goal.invariant-loop-digit
invariant-loop-digit l = IsNumber l.digits l.digit-index l.size
