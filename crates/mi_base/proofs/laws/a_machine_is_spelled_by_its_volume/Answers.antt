use Rattle.mi_base.proofs.MachineLemmas.{machine_back}
use Rattle.mi_base.proofs.laws.a_machine_is_spelled_by_its_volume.Goals as goal

pub returns : goal.returns
returns c m is = machine_back m is
