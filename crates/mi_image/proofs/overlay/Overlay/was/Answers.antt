use Rattle.std.proofs.Common.{Option, ap, sym, ◌∙◌}
use Rattle.std.specs.Prelude.{unwrap_or}
use Rattle.std.specs.FinMap as map
use Rattle.mi_image.specs.declared.item.Item.{Item}
use Rattle.mi_image.specs.Overlays.{Overlaid}
use Rattle.mi_image.proofs.OverlayLemmas.{get-before}
use Rattle.mi_image.proofs.overlay.Overlay.was.Goals as goal

pub returns-in-Some : goal.returns-in-Some
returns-in-Some c =
    let name = c.args.name.now in
    ap (λ (s : Option (Option Item)). unwrap_or s (map.get c.self.inside.image name)) c.in-Some.ensures
    ∙ sym (get-before c.self.inside.image c.self.inside.former name) ∙ ap (λ (o : Overlaid). map.get o.0 name) c.self.view_is

pub returns-in-None : goal.returns-in-None
returns-in-None c =
    let name = c.args.name.now in
    c.get-in-None.ensures.value ∙ ap (λ (s : Option (Option Item)). unwrap_or s (map.get c.self.inside.image name)) c.in-None.ensures
    ∙ sym (get-before c.self.inside.image c.self.inside.former name) ∙ ap (λ (o : Overlaid). map.get o.0 name) c.self.view_is
