use Rattle.std.proofs.Common.{Option, false, not, sym, ap, ◌∙◌}
use Rattle.std.specs.Prelude.{option_map}
use Rattle.std.specs.Option.{option_map_or}
use Rattle.mi_volume.specs.Slots.{is_unnoted, now_of}
use Rattle.mi_volume.specs.declared.before.Before.{Before}
use Rattle.mi_volume.specs.declared.before.Slot.{Slot}
use Rattle.mi_volume.proofs.NoteLemmas.{at_name-notes_at}
use Rattle.mi_volume.proofs.notes.Notes.is_noted.Goals as goal

pub returns-in-Some : goal.returns-in-Some
returns-in-Some c =
    let is = λ (o : Option Before). option_map_or (λ b. not (is_unnoted b)) o false in
    let syncs = c.args.self.now.syncs in
    ap not c.is_unnoted.ensures ∙ ap (λ (o : Option Slot). is (option_map (now_of syncs) o)) c.in-Some.ensures.value ∙ ap is (sym (at_name-notes_at syncs c.args.self.now.slots.entries c.args.name.now))

pub returns-in-None : goal.returns-in-None
returns-in-None c =
    let is = λ (o : Option Before). option_map_or (λ b. not (is_unnoted b)) o false in
    let syncs = c.args.self.now.syncs in
    ap (λ (o : Option Slot). is (option_map (now_of syncs) o)) c.in-None.ensures.value ∙ ap is (sym (at_name-notes_at syncs c.args.self.now.slots.entries c.args.name.now))
