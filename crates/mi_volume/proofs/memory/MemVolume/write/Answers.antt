use Rattle.std.proofs.Common.{◌≤◌, length, refl, ap, subst, sym, ◌∙◌, arith}
use Rattle.std.specs.FinMap.{get, insert}
use Rattle.mi_volume.specs.Maps.{size, Exceeds}
use Rattle.mi_volume.specs.Memory.{Memory, with_piece}
use Rattle.mi_volume.proofs.CrashLemmas.{half_length}
use Rattle.mi_volume.proofs.RoomLemmas.{passes_then, never_passes, size_found}
use Rattle.mi_volume.proofs.memory.MemVolume.write.Goals as goal
use Rattle.mi_volume.proofs.memory.MemVolume.write.Goals.{then-fails, else-fails}

pub returns-in_default-clause-exceeds : goal.returns-in_default-clause-exceeds
returns-in_default-clause-exceeds c = λ is.
    subst (λ (m : Memory). Exceeds m.capacity (size (insert m.kept.held c.args.name.now (with_piece c.args.kind (get m.kept.held c.args.name.now) c.args.bytes.now)))) c.number_call-fails.ensures.leaves
    (passes_then c.number_call-fails.new.self c.args.kind c.args.name.now c.args.bytes.now (length c.args.bytes.now) refl c.in_default.ensures.passes)

pub store-requires : goal.store-requires
store-requires c =
    let fewer : length c.if-fails.piece.now ≤ length c.args.bytes.now = elim c.if-fails.branch [
      | then-fails w ↦ subst (λ n. n ≤ length c.args.bytes.now) (sym (ap (λ p. length p.now) w.piece-is ∙ ap length w.first_half-piece.ensures)) (half_length c.args.bytes.now)
      | else-fails w ↦ subst (λ n. n ≤ length c.args.bytes.now) (sym (ap (λ p. length p.now) w.piece-is)) (omega arith)
    ] in
    size_found c.number_call-fails.new.self c.args.kind c.args.name.now c.if-fails.piece.now (length c.args.bytes.now) (length c.if-fails.piece.now) c.in-Some.used refl fewer c.in-Some.ensures.within

pub returns-then-fails-2-clause-fits : goal.returns-then-fails-2-clause-fits
returns-then-fails-2-clause-fits c = λ over.
    absurd (subst (λ (m : Memory). Exceeds m.capacity (size (insert m.kept.held c.args.name.now (with_piece c.args.kind (get m.kept.held c.args.name.now) c.args.bytes.now))) → ⊥) c.number_call-fails.ensures.leaves
    (never_passes c.number_call-fails.new.self c.args.kind c.args.name.now c.args.bytes.now (length c.args.bytes.now) (length c.if-fails.piece.now) c.in-Some.used refl c.in-Some.ensures.within) over)

pub returns-clause-fits : goal.returns-clause-fits
returns-clause-fits c = λ over.
    absurd (subst (λ (m : Memory). Exceeds m.capacity (size (insert m.kept.held c.args.name.now (with_piece c.args.kind (get m.kept.held c.args.name.now) c.args.bytes.now))) → ⊥) c.number_call-fails.ensures.leaves
    (never_passes c.number_call-fails.new.self c.args.kind c.args.name.now c.args.bytes.now (length c.args.bytes.now) (length c.if-fails.piece.now) c.in-Some.used refl c.in-Some.ensures.within) over)
