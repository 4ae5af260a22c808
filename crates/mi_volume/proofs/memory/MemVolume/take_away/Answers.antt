use Rattle.std.proofs.Common.{◌+◌, ◌-◌, ◌^◌, ℕ, min, length, Option, ap, subst, sym, ◌∙◌}
use Rattle.std.specs.Option.{option_map_or}
use Rattle.std.specs.FinMap.{get}
use Rattle.mi_volume.specs.Memory.{HasRoom}
use Rattle.mi_volume.proofs.RoomLemmas.{touched_room, removed_room, counts}
use Rattle.mi_volume.proofs.memory.MemVolume.take_away.Goals as goal

pub invariant_of-self : goal.invariant_of-self
invariant_of-self c = touched_room c.self.inside.slots c.touch.new.self c.self.inside.capacity c.self.inside.used c.args.name.now c.touch.ensures c.self.invariant

pub invariant_of-self-2 : goal.invariant_of-self-2
invariant_of-self-2 c =
    let gone = c.slot_size-gone.ensures ∙ ap (λ (o : Option ℕ). option_map_or (λ n. min (length c.args.name.now + n) (2 ^ 64 - 1)) o 0) c.size_of.ensures ∙ counts c.args.name.now (get c.self.inside.slots.held c.args.name.now) in
    subst (HasRoom c.remove.new.self c.self.inside.capacity) (sym c.saturating_sub-self-inside.ensures)
    (removed_room c.self.inside.slots c.remove.new.self c.self.inside.capacity c.self.inside.used c.slot_size-gone.result c.args.name.now gone c.remove.ensures c.self.invariant)
