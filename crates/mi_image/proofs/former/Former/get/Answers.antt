use Rattle.std.proofs.Common.{Option, Some, ap, ◌∙◌, sym}
use Rattle.std.specs.Prelude.{option_map}
use Rattle.std.specs.FinMap as map
use Rattle.mi_image.specs.declared.item.Item.{Item}
use Rattle.mi_image.specs.Items.{unboxed}
use Rattle.mi_image.proofs.OverlayLemmas.{get-stood}
use Rattle.mi_image.proofs.former.Former.get.Goals as goal

pub returns-in-Some : goal.returns-in-Some
returns-in-Some c =
    ap (λ (o : Option Item). Some o) (c.lent.ensures ∙ ap (option_map unboxed) c.as_ref.ensures.value)
    ∙ ap (option_map (option_map unboxed)) c.in-Some.ensures.value
    ∙ sym (get-stood c.self.inside.items.entries c.args.name.now) ∙ ap (λ m. map.get m c.args.name.now) c.self.view_is

pub returns-in-None : goal.returns-in-None
returns-in-None c =
    ap (option_map (option_map unboxed)) c.in-None.ensures.value
    ∙ sym (get-stood c.self.inside.items.entries c.args.name.now) ∙ ap (λ m. map.get m c.args.name.now) c.self.view_is
