use Rattle.std.proofs.Common.{ap, subst, ◌∙◌}
use Rattle.mi_volume.specs.Kept.{imaged}
use Rattle.mi_volume.specs.Memory.{Memory, HasRoom}
use Rattle.mi_volume.proofs.RoomLemmas.{image_room, possible}
use Rattle.mi_volume.proofs.memory.MemVolume.image.Goals as goal

pub invariant_of-result : goal.invariant_of-result
invariant_of-result c = image_room c.args.choice c.self.inside.slots c.in_ok-slots.slots c.self.inside.capacity c.self.inside.used c.size-used.result c.in_ok-slots.ensures c.size-used.ensures c.self.invariant

pub returns-clause-possible : goal.returns-clause-possible
returns-clause-possible c =
    possible c.args.choice c.args.self.now c.self.inside.used c.in_ok-slots.slots (subst (λ (m : Memory). HasRoom m.kept m.capacity c.self.inside.used) c.self.view_is c.self.invariant)
    (c.in_ok-slots.ensures ∙ ap (λ (m : Memory). imaged c.args.choice m.kept) c.self.view_is)
