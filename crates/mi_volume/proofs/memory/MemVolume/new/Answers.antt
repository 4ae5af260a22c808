use Rattle.mi_volume.proofs.RoomLemmas.{opens}
use Rattle.mi_volume.proofs.memory.MemVolume.new.Goals as goal

pub invariant_of-result : goal.invariant_of-result
invariant_of-result c = opens c.new.result c.args.capacity c.new.ensures c.requires
