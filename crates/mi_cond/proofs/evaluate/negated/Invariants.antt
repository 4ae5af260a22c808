use Rattle.std.proofs.Common.{◌≡◌, ◌-◌}
use Rattle.std.specs.Prelude.{not}
use Rattle.mi_cond.specs.Steps.{negated_by}
use Rattle.mi_cond.proofs.evaluate.negated.Given as goal

abbrev pub invariant-loop : goal.invariant-loop
invariant-loop l = negated_by not (l.nots - l.counter) l.value ≡ negated_by not l.nots l.fn.factor
