use Rattle.std.proofs.Common.{◌≡◌, true, List, ℕ, None, ap, sym, ◌∙◌}
use Rattle.std.specs.Prelude.{is_some}
use Rattle.std.specs.FinMap as map
use Rattle.mi_image.specs.Overlays.{Overlaid}
use Rattle.mi_image.proofs.OverlayLemmas.{changed_held}
use Rattle.mi_image.proofs.overlay.Overlay.remove.Goals as goal

pub returns-then-holds-clause-former : goal.returns-then-holds-clause-former
returns-then-holds-clause-former c =
    let held : is_some (map.get c.self.inside.former c.args.name.now) ≡ true = ap (λ (n : List ℕ). is_some (map.get c.self.inside.former n)) (sym c.as_str.ensures.text) ∙ sym c.holds.ensures ∙ c.if-holds.true in
    changed_held c.self.inside.image c.take-was.new.self c.self.inside.former c.args.name.now None held (c.take-was.ensures.gone ∙ ap (map.remove c.self.inside.image) c.as_str-then-holds.ensures.text) ∙ ap (λ (o : Overlaid). o.0) c.self.view_is
