use Rattle.std.proofs.Common.{◌≡◌, ap, subst, sym, ◌∙◌}
use Rattle.std.specs.Option.{option_copied}
use Rattle.std.specs.FinMap as map
use Rattle.std.specs.Prelude.{option_map}
use Rattle.mi_image.specs.Items.{AreRight, unboxed}
use Rattle.mi_image.specs.Lookups.{IsComposed}
use Rattle.mi_image.proofs.ItemLemmas.{get-items}
use Rattle.mi_image.proofs.LookupLemmas.{none_there}
use Rattle.mi_image.proofs.image.Image.at.Goals as goal

pub returns-clause-value : goal.returns-clause-value
returns-clause-value c q composed =
    let named : c.as_str.result.now ≡ q = c.as_str.ensures ∙ subst (IsComposed q) c.in_ok-name.was composed in
    c.lent.ensures ∙ ap (option_map unboxed) c.get.ensures.value ∙ sym (get-items c.self.inside.items.entries c.as_str.result.now) ∙ ap (λ m. map.get m c.as_str.result.now) c.self.view_is ∙ ap (map.get c.args.self.now) named

pub returns-clause-right : goal.returns-clause-right
returns-clause-right c = subst (λ m. AreRight m) c.self.view_is c.self.invariant

pub returns-in_err-name-clause-value : goal.returns-in_err-name-clause-value
returns-in_err-name-clause-value c q composed =
    ap option_copied c.from_residual.ensures ∙ sym (none_there c.args.self.now q (subst (λ m. AreRight m) c.self.view_is c.self.invariant) (subst (IsComposed q) c.in_err-name.was composed))

pub returns-in_err-name-clause-right : goal.returns-in_err-name-clause-right
returns-in_err-name-clause-right c = subst (λ m. AreRight m) c.self.view_is c.self.invariant
