use Rattle.std.proofs.Common.{ap, ◌∙◌}
use Rattle.mi_volume.specs.Kept.{cleaned}
use Rattle.mi_volume.specs.Notes.{notes_of}
use Rattle.mi_volume.proofs.KeptLemmas.{cleaned_view, cleaned_slots}
use Rattle.mi_volume.proofs.slots.Slots.sync.Goals as goal

pub invariant_of-self : goal.invariant_of-self
invariant_of-self c = cleaned_slots c.self.inside.held.entries (notes_of c.self.inside.before) (notes_of c.clean.new.self) c.self.invariant c.clean.ensures

pub returns : goal.returns
returns c = cleaned_view c.self.inside.held.entries (notes_of c.self.inside.before) (notes_of c.clean.new.self) c.clean.ensures ∙ ap cleaned c.self.view_is
