-- Written out, so that an edit that turns it is refused at once (docs/CONTRIBUTING.md).
use Rattle.std.proofs.Common.{List, ap, ◌∙◌}
use Rattle.std.specs.List.{flat_map}
use Rattle.std.proofs.lemmas.Result.{IfOk-weaker}
use Rattle.mi_base.specs.declared.entry.Product.{Product}
use Rattle.mi_model.specs.Listings.{product_line}
use Rattle.mi_report.proofs.listings.products_text.Goals as goal

pub returns : goal.returns
returns c = λ held files.
    IfOk-weaker c.listing.result _ _ (λ bytes is. is ∙ ap (λ (ps : List Product). flat_map product_line ps) (c.as_slice.ensures.value ∙ c.in_ok-products.ensures held files)) c.listing.ensures
