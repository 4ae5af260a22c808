use Rattle.std.proofs.Common.{◌∷◌, [], Some, ap, sym, refl, ◌∙◌}
use Rattle.std.specs.FinMap.{get}
use Rattle.mi_volume.specs.Kept.{Kept, changed}
use Rattle.mi_volume.specs.declared.before.Before.TheVariants.{OneByte}
use Rattle.mi_volume.specs.Notes.{notes_of}
use Rattle.mi_volume.proofs.SlotLemmas.{get-map_of}
use Rattle.mi_volume.proofs.KeptLemmas.{changed_held}
use Rattle.mi_volume.proofs.slots.Slots.mark.Goals as goal

pub mark_held-held-requires : goal.mark_held-held-requires
mark_held-held-requires c = (c.requires.0, sym (get-map_of c.self.inside.held.entries c.args.name.now) ∙ ap (λ (k : Kept). get k.held c.args.name.now) c.self.view_is ∙ c.requires.1)

pub invariant_of-self : goal.invariant_of-self
invariant_of-self c =
    (changed_held c.self.inside.held.entries c.mark_held-held.new.held.entries (notes_of c.self.inside.before) (notes_of c.note.new.self) c.args.name.now (Some (c.args.byte ∷ [])) (OneByte c.mark_held-held.result) (c.mark_held-held.result ∷ [])
    c.self.invariant c.mark_held-held.ensures.was c.mark_held-held.ensures.sets c.note.ensures refl).1

pub returns : goal.returns
returns c =
    (changed_held c.self.inside.held.entries c.mark_held-held.new.held.entries (notes_of c.self.inside.before) (notes_of c.note.new.self) c.args.name.now (Some (c.args.byte ∷ [])) (OneByte c.mark_held-held.result) (c.mark_held-held.result ∷ [])
    c.self.invariant c.mark_held-held.ensures.was c.mark_held-held.ensures.sets c.note.ensures refl).0
    ∙ ap (λ (k : Kept). changed k c.args.name.now (Some (c.args.byte ∷ []))) c.self.view_is
