use Rattle.std.proofs.Common.{ap, ◌∙◌, subst, sym}
use Rattle.std.specs.FinMap as map
use Rattle.std.specs.Prelude.{option_map}
use Rattle.mi_image.specs.Items.{AreRight, unboxed}
use Rattle.mi_image.proofs.ItemLemmas.{get-items}
use Rattle.mi_image.proofs.image.Image.get.Goals as goal

pub returns-clause-value : goal.returns-clause-value
returns-clause-value c = c.lent.ensures ∙ ap (option_map unboxed) c.get.ensures.value ∙ sym (get-items c.self.inside.items.entries c.args.name.now) ∙ ap (λ m. map.get m c.args.name.now) c.self.view_is

pub returns-clause-right : goal.returns-clause-right
returns-clause-right c = subst (λ m. AreRight m) c.self.view_is c.self.invariant
