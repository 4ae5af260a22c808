use Rattle.mi_volume.proofs.RoomLemmas.{cleaned_room}
use Rattle.mi_volume.proofs.memory.MemVolume.make_clean.Goals as goal

pub invariant_of-self : goal.invariant_of-self
invariant_of-self c = cleaned_room c.self.inside.slots c.sync.new.self c.self.inside.capacity c.self.inside.used c.sync.ensures c.self.invariant
