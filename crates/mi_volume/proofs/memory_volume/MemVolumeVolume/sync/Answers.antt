use Rattle.mi_volume.proofs.StateLemmas.{syncs, sync_goes}
use Rattle.mi_volume.proofs.memory_volume.MemVolumeVolume.sync.Goals as goal

pub returns-clause-syncs : goal.returns-clause-syncs
returns-clause-syncs c = syncs c.make_clean.result c.args.self.now c.make_clean.new.self c.make_clean.ensures.fails c.make_clean.ensures.leaves c.make_clean.ensures.fits

pub returns-clause-moments : goal.returns-clause-moments
returns-clause-moments c = sync_goes c.args.self.now c.make_clean.new.self c.make_clean.ensures.leaves c.make_clean.ensures.later
