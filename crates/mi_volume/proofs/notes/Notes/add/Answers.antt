use Rattle.std.proofs.Common.{Some, sym, ap, subst, ◌∙◌}
use Rattle.std.specs.Prelude.{option_map, unwrap_or}
use Rattle.mi_text.specs.Maps.{Name}
use Rattle.mi_volume.specs.Notes.{notes_of}
use Rattle.mi_volume.specs.Slots.{Sets, at_name, now_of}
use Rattle.mi_volume.specs.declared.before.Before.TheVariants.{Clean}
use Rattle.mi_volume.specs.declared.before.Slot.{Slot}
use Rattle.mi_volume.proofs.SlotLemmas.{sets, sets_same, is_none_of, or_there}
use Rattle.mi_volume.proofs.NoteLemmas.{at_name-notes_at, notes_set, note_there, now_of-clean_slot}
use Rattle.mi_volume.proofs.notes.Notes.add.Goals as goal

pub returns-in_ok-insert-clause-ok : goal.returns-in_ok-insert-clause-ok
returns-in_ok-insert-clause-ok c =
    let es = c.args.self.now.slots.entries in
    let none = is_none_of (at_name es c.args.name.now) _ c.contains_key.ensures c.if-not-contains_key.true in
    let made = subst (λ (n : Name). Sets n (Some c.clean.result) es c.insert.new.self.entries) c.in_ok-copy.ensures
    (sets c.args.self.now.slots c.insert.new.self c.in_ok-copy.field-0 (Some c.clean.result) c.in_ok-insert.ensures.updates) in
    notes_set c.args.self.now.syncs es c.insert.new.self.entries c.args.name.now (Some c.clean.result) _ made
    (ap (λ (s : Slot). Some (now_of c.args.self.now.syncs s)) c.clean.ensures ∙ ap Some (now_of-clean_slot c.args.self.now.syncs) ∙ ap (λ o. Some (unwrap_or o Clean)) (sym (at_name-notes_at c.args.self.now.syncs es c.args.name.now ∙ ap (option_map (now_of c.args.self.now.syncs)) none)))

pub returns-else-not-contains_key-clause-ok : goal.returns-else-not-contains_key-clause-ok
returns-else-not-contains_key-clause-ok c =
    let notes = notes_of c.args.self.now in
    let there = c.contains_key.ensures ∙ sym (note_there c.args.self.now.syncs c.args.self.now.slots.entries c.args.name.now) in
    sets_same notes c.args.name.now _ (or_there (at_name notes c.args.name.now) Clean _ there c.if-not-contains_key.false)
