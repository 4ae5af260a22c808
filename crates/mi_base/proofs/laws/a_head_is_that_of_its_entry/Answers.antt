use Rattle.mi_base.proofs.MachineLemmas.{head_same}
use Rattle.mi_base.proofs.laws.a_head_is_that_of_its_entry.Goals as goal

pub returns : goal.returns
returns c path bytes good = head_same path bytes good
