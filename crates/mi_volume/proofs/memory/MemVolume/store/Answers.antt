use Rattle.std.proofs.Common.{◌≡◌, ◌≤◌, ℕ, Some, subst, sym}
use Rattle.std.specs.FinMap.{get, insert}
use Rattle.mi_volume.specs.Maps.{size}
use Rattle.mi_volume.specs.Memory.{Memory, with_piece}
use Rattle.mi_volume.proofs.RoomLemmas.{stored_room, ok_holds}
use Rattle.mi_volume.proofs.memory.MemVolume.store.Goals as goal

pub invariant_of-self-2 : goal.invariant_of-self-2
invariant_of-self-2 c =
    let stored = ok_holds c.store.result c.is_err.result c.is_err.ensures.value c.if-is_err.false c.store.ensures.ok in
    let sizes = subst (λ (m : Memory). (n : ℕ) → m.capacity ≡ Some n → (c.args.used ≡ size (insert m.kept.held c.args.name.now (with_piece c.args.kind (get m.kept.held c.args.name.now) c.args.piece.now))) × (c.args.used ≤ n)) (sym c.self.view_is) c.requires in
    stored_room c.self.inside.slots c.store.new.self c.self.inside.capacity c.self.inside.used c.args.used c.args.name.now (with_piece c.args.kind (get c.self.inside.slots.held c.args.name.now) c.args.piece.now) stored sizes c.self.invariant
