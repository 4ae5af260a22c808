use Rattle.std.proofs.Common.{◌≡◌, ap, subst, sym, ◌∙◌}
use Rattle.mi_volume.specs.Maps.{HoldsByte}
use Rattle.mi_volume.specs.Kept.{Kept}
use Rattle.mi_volume.specs.Memory.{Memory}
use Rattle.mi_volume.proofs.RoomLemmas.{touched_room, marked_room}
use Rattle.mi_volume.proofs.memory.MemVolume.replace_byte.Goals as goal

pub invariant_of-self : goal.invariant_of-self
invariant_of-self c = touched_room c.self.inside.slots c.touch.new.self c.self.inside.capacity c.self.inside.used c.args.name.now c.touch.ensures c.self.invariant

pub invariant_of-self-2 : goal.invariant_of-self-2
invariant_of-self-2 c =
    let same : c.self.inside.slots ≡ c.args.self.now.kept = ap (λ (m : Memory). m.kept) (c.self.view_is ∙ c.look.ensures.leaves) in
    marked_room c.self.inside.slots c.mark.new.self c.self.inside.capacity c.self.inside.used c.args.name.now c.args.byte
    (subst (λ (k : Kept). HoldsByte k.held c.args.name.now) (sym same) c.requires) c.mark.ensures c.self.invariant
