use Rattle.mi_base.proofs.MachineLemmas.{machine_is, entry_same, volume_same}
use Rattle.mi_base.proofs.laws.a_volume_spells_a_machine.Goals as goal

pub returns : goal.returns
returns c = record { machine = machine_is; entries = entry_same; volume = volume_same }
