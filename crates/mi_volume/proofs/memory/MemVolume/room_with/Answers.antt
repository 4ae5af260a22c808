use Rattle.std.proofs.Common.{◌+◌, ◌-◌, ◌^◌, ℕ, min, length, Option, ap, subst, sym, ◌∙◌}
use Rattle.std.specs.Prelude.{option_map}
use Rattle.std.specs.Option.{option_map_or}
use Rattle.std.specs.FinMap.{get}
use Rattle.mi_volume.specs.Memory.{Memory, HasRoom, HasRoomFor, HasNoRoomFor, length_after}
use Rattle.mi_volume.proofs.RoomLemmas.{slot_within, room_found, no_room_found, counts, some_then, none_then}
use Rattle.mi_volume.proofs.memory.MemVolume.room_with.Goals as goal

pub room_for-requires-clause-held : goal.room_for-requires-clause-held
room_for-requires-clause-held c =
    let old = c.slot_size.ensures ∙ ap (λ (o : Option ℕ). option_map_or (λ n. min (length c.args.name.now + n) (2 ^ 64 - 1)) o 0) c.size_of-old.ensures ∙ counts c.args.name.now (get c.self.inside.slots.held c.args.name.now) in
    slot_within c.self.inside.slots c.self.inside.capacity c.self.inside.used c.slot_size.result c.args.name.now old c.self.invariant

pub returns-clause-within : goal.returns-clause-within
returns-clause-within c =
    let m = c.args.self.now in
    let size_of = c.size_of-old.ensures ∙ ap (λ (m : Memory). option_map length (get m.kept.held c.args.name.now)) c.self.view_is in
    let old = c.slot_size.ensures ∙ ap (λ (o : Option ℕ). option_map_or (λ n. min (length c.args.name.now + n) (2 ^ 64 - 1)) o 0) size_of ∙ counts c.args.name.now (get m.kept.held c.args.name.now) in
    let new = c.slot_size-2.ensures ∙ ap (λ n. min (length c.args.name.now + n) (2 ^ 64 - 1)) (c.length_after-new.ensures ∙ ap (λ (o : Option ℕ). min (length_after c.args.kind o c.args.whole) (2 ^ 64 - 1)) size_of) in
    let room = subst (λ (m : Memory). HasRoom m.kept m.capacity c.self.inside.used) c.self.view_is c.self.invariant in
    some_then c.room_for.result _ (HasRoomFor m c.args.kind c.args.name.now c.args.whole c.args.part)
    (λ n sums. room_found m c.args.kind c.args.name.now c.args.whole c.args.part c.self.inside.used c.slot_size.result c.slot_size-2.result n room old new c.requires (λ x at. sums x (ap (λ (m : Memory). m.capacity) c.self.view_is ∙ at)))
    c.room_for.ensures.within

pub returns-clause-passes : goal.returns-clause-passes
returns-clause-passes c =
    let m = c.args.self.now in
    let size_of = c.size_of-old.ensures ∙ ap (λ (m : Memory). option_map length (get m.kept.held c.args.name.now)) c.self.view_is in
    let old = c.slot_size.ensures ∙ ap (λ (o : Option ℕ). option_map_or (λ n. min (length c.args.name.now + n) (2 ^ 64 - 1)) o 0) size_of ∙ counts c.args.name.now (get m.kept.held c.args.name.now) in
    let new = c.slot_size-2.ensures ∙ ap (λ n. min (length c.args.name.now + n) (2 ^ 64 - 1)) (c.length_after-new.ensures ∙ ap (λ (o : Option ℕ). min (length_after c.args.kind o c.args.whole) (2 ^ 64 - 1)) size_of) in
    let room = subst (λ (m : Memory). HasRoom m.kept m.capacity c.self.inside.used) c.self.view_is c.self.invariant in
    none_then c.room_for.result _ (HasNoRoomFor m c.args.kind c.args.name.now c.args.whole)
    (λ passes. no_room_found m c.args.kind c.args.name.now c.args.whole c.self.inside.used c.slot_size.result c.slot_size-2.result room old new (passes.0, sym (ap (λ (m : Memory). m.capacity) c.self.view_is) ∙ passes.1, passes.2))
    c.room_for.ensures.passes
