use Rattle.mi_regval.proofs.ChangeLemmas.{same_is, new_is, fault_is}
use Rattle.mi_regval.proofs.laws.change_gives_the_value.Goals as goal

pub returns-clause-unchanged : goal.returns-clause-unchanged
returns-clause-unchanged c = λ text old e. same_is text old e

pub returns-clause-value : goal.returns-clause-value
returns-clause-value c = λ text old v e. new_is text old v e

pub returns-clause-fault : goal.returns-clause-fault
returns-clause-fault c = λ text old f e. fault_is text old f e
