use Rattle.mi_volume.proofs.StateLemmas.{removes, remove_goes}
use Rattle.mi_volume.proofs.memory_volume.MemVolumeVolume.remove.Goals as goal

pub returns-clause-removes : goal.returns-clause-removes
returns-clause-removes c = removes c.take_away.result c.args.self.now c.take_away.new.self c.args.name.now c.take_away.ensures.fails c.take_away.ensures.leaves

pub returns-clause-moments : goal.returns-clause-moments
returns-clause-moments c = remove_goes c.args.self.now c.take_away.new.self c.args.name.now c.take_away.ensures.leaves c.take_away.ensures.later
