use Rattle.std.proofs.Common.{rules}
use Rattle.std.specs.Prelude.{is_some}
use Rattle.mi_text.specs.Maps.{Name}
use Rattle.mi_volume.specs.Slots.{at_name, clean_slot}
use Rattle.mi_volume.proofs.SlotLemmas.{kept_of_retain}
use Rattle.mi_volume.proofs.NoteLemmas.{visits_kept, visited_written, visited_clean}
use Rattle.mi_volume.proofs.notes.Notes.drop_absent.Goals as goal

pub invariant_of-self : goal.invariant_of-self
invariant_of-self c =
    let held = c.args.held.now.entries in
    let es = c.args.self.now.slots.entries in
    record {
      written = visited_written held es c.retain.new.self.entries (visits_kept held es c.retain.new.self.entries
          (kept_of_retain _ (λ (n : Name). is_some (at_name held n)) clean_slot _ (λ k v b w g t. search rules) es c.retain.new.self.entries c.retain.ensures.filtered));
    }

pub returns : goal.returns
returns c =
    let held = c.args.held.now.entries in
    let es = c.args.self.now.slots.entries in
    visited_clean c.args.self.now.syncs 0 held es c.retain.new.self.entries (visits_kept held es c.retain.new.self.entries
    (kept_of_retain _ (λ (n : Name). is_some (at_name held n)) clean_slot _ (λ k v b w g t. search rules) es c.retain.new.self.entries c.retain.ensures.filtered))
