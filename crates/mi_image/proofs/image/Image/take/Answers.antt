use Rattle.std.proofs.Common.{ap, ◌∙◌, None, sym}
use Rattle.std.specs.Prelude.{option_map}
use Rattle.std.specs.FinMap as map
use Rattle.mi_image.specs.Items.{unboxed}
use Rattle.mi_image.proofs.ItemLemmas.{stored, right_set, get-items}
use Rattle.mi_image.proofs.image.Image.take.Goals as goal

pub returns-clause-value : goal.returns-clause-value
returns-clause-value c = ap (option_map unboxed) c.remove.ensures.value ∙ sym (get-items c.self.inside.items.entries c.args.name.now) ∙ ap (λ m. map.get m c.args.name.now) c.self.view_is

pub returns-clause-gone : goal.returns-clause-gone
returns-clause-gone c = stored c.self.inside.items c.remove.new.self c.args.name.now None c.remove.ensures.updates ∙ ap (λ m. map.remove m c.args.name.now) c.self.view_is

pub invariant_of-self : goal.invariant_of-self
invariant_of-self c = right_set _ _ c.args.name.now None (stored c.self.inside.items c.remove.new.self c.args.name.now None c.remove.ensures.updates) c.self.invariant (λ i e. absurd cc)
