use Rattle.std.proofs.Common.{sym, ap, ◌∙◌}
use Rattle.std.specs.FinMap.{get}
use Rattle.mi_volume.specs.Kept.{Kept}
use Rattle.mi_volume.proofs.SlotLemmas.{get-map_of}
use Rattle.mi_volume.proofs.slots.Slots.get.Goals as goal

pub returns : goal.returns
returns c = c.get.ensures.value ∙ sym (get-map_of c.self.inside.held.entries c.args.name.now) ∙ ap (λ (k : Kept). get k.held c.args.name.now) c.self.view_is
