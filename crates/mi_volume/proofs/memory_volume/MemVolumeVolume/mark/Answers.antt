use Rattle.mi_volume.proofs.StateLemmas.{marks, mark_goes}
use Rattle.mi_volume.proofs.memory_volume.MemVolumeVolume.mark.Goals as goal

pub returns-clause-marks : goal.returns-clause-marks
returns-clause-marks c = marks c.replace_byte.result c.args.self.now c.replace_byte.new.self c.args.name.now c.args.byte c.requires c.replace_byte.ensures.fails c.replace_byte.ensures.leaves

pub returns-clause-moments : goal.returns-clause-moments
returns-clause-moments c = mark_goes c.args.self.now c.replace_byte.new.self c.args.name.now c.args.byte c.replace_byte.ensures.leaves c.replace_byte.ensures.later
