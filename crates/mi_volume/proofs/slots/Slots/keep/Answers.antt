use Rattle.std.proofs.Common.{List, Some, refl, ap, subst, sym, ◌∙◌}
use Rattle.mi_text.specs.Maps.{Name}
use Rattle.mi_volume.specs.Kept.{Kept, with_clean}
use Rattle.mi_volume.specs.Notes.{notes_of}
use Rattle.mi_volume.specs.Slots.{Sets, HaveSlots}
use Rattle.mi_volume.specs.declared.before.Before.{Before}
use Rattle.mi_volume.specs.declared.before.Before.TheVariants.{Clean}
use Rattle.mi_volume.proofs.SlotLemmas.{sets}
use Rattle.mi_volume.proofs.KeptLemmas.{clean_view, have_slots}
use Rattle.mi_volume.proofs.slots.Slots.keep.Goals as goal

pub invariant_of-self : goal.invariant_of-self
invariant_of-self c = subst (λ (notes : List (Name × Before)). HaveSlots c.self.inside.held.entries notes) (sym c.in_err-set_clean.ensures.err) c.self.invariant

pub invariant_of-self-2 : goal.invariant_of-self-2
invariant_of-self-2 c =
    let given = subst (λ (n : Name). Sets n (Some c.in-Some.bytes) c.self.inside.held.entries c.insert.new.self.entries) c.in_ok-copy.ensures (sets c.self.inside.held c.insert.new.self c.in_ok-copy.field-0 (Some c.in-Some.bytes) c.in_ok-insert.ensures.updates) in
    have_slots c.self.inside.held.entries c.insert.new.self.entries (notes_of c.self.inside.before) (notes_of c.set_clean.new.self) c.args.name.now (Some c.in-Some.bytes) (Some Clean) c.self.invariant given c.in_ok-set_clean.ensures.ok (λ _. refl)

pub returns : goal.returns
returns c =
    let given = subst (λ (n : Name). Sets n (Some c.in-Some.bytes) c.self.inside.held.entries c.insert.new.self.entries) c.in_ok-copy.ensures (sets c.self.inside.held c.insert.new.self c.in_ok-copy.field-0 (Some c.in-Some.bytes) c.in_ok-insert.ensures.updates) in
    clean_view c.self.inside.held.entries c.insert.new.self.entries (notes_of c.self.inside.before) (notes_of c.set_clean.new.self) c.args.name.now c.in-Some.bytes given c.in_ok-set_clean.ensures.ok
    ∙ ap (λ (k : Kept). with_clean k c.args.name.now (Some c.in-Some.bytes)) c.self.view_is
    ∙ ap (with_clean c.args.self.now c.args.name.now) (sym c.in-Some.is)
