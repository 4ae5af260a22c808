use Rattle.mi_base.proofs.MachineLemmas.{same_machine}
use Rattle.mi_base.proofs.laws.machines_that_agree_are_the_same.Goals as goal

pub returns : goal.returns
returns c = same_machine
