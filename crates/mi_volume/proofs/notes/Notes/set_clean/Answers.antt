use Rattle.std.proofs.Common.{Some, ap, subst, ◌∙◌}
use Rattle.mi_text.specs.Maps.{Name}
use Rattle.mi_volume.specs.Slots.{Sets, now_of}
use Rattle.mi_volume.specs.declared.before.Slot.{Slot}
use Rattle.mi_volume.proofs.SlotLemmas.{sets}
use Rattle.mi_volume.proofs.NoteLemmas.{notes_set, now_of-clean_slot}
use Rattle.mi_volume.proofs.notes.Notes.set_clean.Goals as goal

pub returns-clause-ok : goal.returns-clause-ok
returns-clause-ok c =
    let es = c.args.self.now.slots.entries in
    let made = subst (λ (n : Name). Sets n (Some c.clean.result) es c.insert.new.self.entries) c.in_ok-copy.ensures
    (sets c.args.self.now.slots c.insert.new.self c.in_ok-copy.field-0 (Some c.clean.result) c.in_ok-insert.ensures.updates) in
    notes_set c.args.self.now.syncs es c.insert.new.self.entries c.args.name.now (Some c.clean.result) _ made (ap (λ (s : Slot). Some (now_of c.args.self.now.syncs s)) c.clean.ensures ∙ ap Some (now_of-clean_slot c.args.self.now.syncs))
