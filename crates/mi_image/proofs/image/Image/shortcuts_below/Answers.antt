use Rattle.std.proofs.Common.{◌∙◌}
use Rattle.mi_image.proofs.ListLemmas.{ok_both}
use Rattle.mi_image.proofs.PlaceLemmas.{shortcuts_are}
use Rattle.mi_image.proofs.image.Image.shortcuts_below.Goals as goal

pub returns : goal.returns
returns c held files = ok_both c.places_below.result _ _ _ (λ paths is right. is ∙ shortcuts_are held files c.args.self.now c.args.folder.now right) c.places_below.ensures.picked c.places_below.ensures.right
