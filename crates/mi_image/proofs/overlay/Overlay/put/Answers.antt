use Rattle.std.proofs.Common.{◌≡◌, true, List, ℕ, Some, ap, sym, ◌∙◌}
use Rattle.std.specs.Prelude.{is_some}
use Rattle.std.specs.FinMap as map
use Rattle.mi_image.specs.Overlays.{Overlaid}
use Rattle.mi_image.proofs.OverlayLemmas.{changed_either}
use Rattle.mi_image.proofs.overlay.Overlay.put.Goals as goal

pub returns-then-holds-clause-former : goal.returns-then-holds-clause-former
returns-then-holds-clause-former c =
    let held : is_some (map.get c.self.inside.former c.args.name.now) ≡ true = ap (λ (n : List ℕ). is_some (map.get c.self.inside.former n)) (sym c.as_str.ensures.text) ∙ sym c.holds.ensures ∙ c.if-holds.true in
    changed_either c.put.result c.self.inside.image c.put.new.self c.self.inside.former c.args.name.now (Some c.args.item) held c.put.ensures.ok c.put.ensures.err ∙ ap (λ (o : Overlaid). o.0) c.self.view_is
