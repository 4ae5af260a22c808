use Rattle.std.proofs.Common.{List, ℕ, Some, None, ap, sym, refl, ◌∙◌}
use Rattle.mi_text.specs.Maps.{Name}
use Rattle.mi_volume.specs.Kept.{Kept, changed}
use Rattle.mi_volume.specs.Slots.{kept_of}
use Rattle.mi_volume.specs.declared.before.Before.TheVariants.{Held}
use Rattle.mi_volume.specs.Notes.{notes_of}
use Rattle.mi_volume.proofs.SlotLemmas.{sets, held_at}
use Rattle.mi_volume.proofs.KeptLemmas.{changed_held, if_held, if_absent}
use Rattle.mi_volume.proofs.slots.Slots.remove.Goals as goal

pub invariant_of-self : goal.invariant_of-self
invariant_of-self c =
    (changed_held c.self.inside.held.entries c.remove.new.self.entries (notes_of c.self.inside.before) (notes_of c.note.new.self) c.args.name.now None (Held c.in-Some.bytes) c.in-Some.bytes
    c.self.invariant (sym c.in-Some.ensures.value) (sets c.self.inside.held c.remove.new.self c.args.name.now None c.remove.ensures.updates) c.note.ensures refl).1

pub returns-in-Some : goal.returns-in-Some
returns-in-Some c =
    (changed_held c.self.inside.held.entries c.remove.new.self.entries (notes_of c.self.inside.before) (notes_of c.note.new.self) c.args.name.now None (Held c.in-Some.bytes) c.in-Some.bytes
    c.self.invariant (sym c.in-Some.ensures.value) (sets c.self.inside.held c.remove.new.self c.args.name.now None c.remove.ensures.updates) c.note.ensures refl).0
    ∙ ap (λ (k : Kept). changed k c.args.name.now None) c.self.view_is
    ∙ sym (if_held c.args.self.now c.args.name.now None c.in-Some.bytes (held_at c.self.inside.held.entries (notes_of c.self.inside.before) c.args.self.now c.args.name.now (Some c.in-Some.bytes) c.self.view_is c.in-Some.ensures.value))

pub returns-in_default : goal.returns-in_default
returns-in_default c =
    ap (λ (h : List (Name × List ℕ)). kept_of h (notes_of c.self.inside.before)) c.in_default.ensures.unchanged ∙ c.self.view_is
    ∙ sym (if_absent c.args.self.now c.args.name.now None (held_at c.self.inside.held.entries (notes_of c.self.inside.before) c.args.self.now c.args.name.now None c.self.view_is c.in_default.ensures.value))
