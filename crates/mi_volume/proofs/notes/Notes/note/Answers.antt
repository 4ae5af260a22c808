use Rattle.std.proofs.Common.{◌≡◌, List, Option, Some, None, sym, ap, subst, ◌∙◌}
use Rattle.std.specs.Prelude.{option_map}
use Rattle.mi_text.specs.Maps.{Name}
use Rattle.mi_volume.specs.Notes.{notes_of}
use Rattle.mi_volume.specs.Slots.{Sets, noted_as, now_of, notes_at, at_name}
use Rattle.mi_volume.specs.declared.before.Slot.{Slot}
use Rattle.mi_volume.proofs.SlotLemmas.{sets_through, sets_same}
use Rattle.mi_volume.proofs.NoteLemmas.{at_name-notes_at, notes_set}
use Rattle.mi_volume.proofs.notes.Notes.note.Goals as goal

pub returns-in-Some : goal.returns-in-Some
returns-in-Some c =
    let syncs = c.args.self.now.syncs in
    let es = c.args.self.now.slots.entries in
    let there = c.in-Some.ensures.value in
    notes_set syncs es (c.get_mut.follows.lender c.note.new.self).entries c.args.name.now (Some c.note.new.self) _
    (sets_through c.args.self.now.slots (c.get_mut.follows.lender c.note.new.self) c.args.name.now c.in-Some.slot.now c.note.new.self there (c.get_mut.follows.holds c.note.new.self))
    (ap Some c.note.ensures.notes ∙ ap (λ (o : Option Slot). option_map (noted_as c.args.saved) (option_map (now_of syncs) o)) there ∙ ap (option_map (noted_as c.args.saved)) (sym (at_name-notes_at syncs es c.args.name.now)))

pub returns-in_default : goal.returns-in_default
returns-in_default c =
    let syncs = c.args.self.now.syncs in
    let es = c.args.self.now.slots.entries in
    let notes = notes_of c.args.self.now in
    let none : at_name notes c.args.name.now ≡ None = at_name-notes_at syncs es c.args.name.now ∙ ap (option_map (now_of syncs)) (sym c.in_default.ensures.value) in
    subst (λ (new : List (Name × Slot)). Sets c.args.name.now (option_map (noted_as c.args.saved) (at_name notes c.args.name.now)) notes (notes_at syncs new))
    (sym (ap (λ m. m.entries) c.get_mut.follows.holds-at-none))
    (sets_same notes c.args.name.now _ (ap (option_map (noted_as c.args.saved)) none ∙ sym none))
