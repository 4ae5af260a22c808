use Rattle.std.proofs.Common.{map, ap, ◌∙◌}
use Rattle.std.specs.List.{filter_map}
use Rattle.std.proofs.lemmas.Result.{IfOk-weaker}
use Rattle.mi_image.specs.Picks.{product_in}
use Rattle.mi_image.proofs.ListLemmas.{products_are}
use Rattle.mi_image.proofs.image.Image.products.Goals as goal

pub returns : goal.returns
returns c held files =
    let found = ap (map (λ i. i.now)) c.as_slice.ensures.value ∙ c.in_ok-items.ensures.found in
    IfOk-weaker c.pick_all.result _ _ (λ v is. is ∙ ap (filter_map (product_in)) found ∙ products_are held files c.args.self.now c.in_ok-items.ensures.right) c.pick_all.ensures
