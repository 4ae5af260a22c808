use Rattle.std.proofs.Common.{subst}
use Rattle.mi_image.specs.Items.{AreRight}
use Rattle.mi_image.proofs.ListLemmas.{found_in}
use Rattle.mi_image.proofs.image.Image.under.Goals as goal

pub returns-clause-found : goal.returns-clause-found
returns-clause-found c = found_in c.items_under.result c.self.inside.items c.args.self.now c.args.front.now c.self.view_is c.items_under.ensures.found c.items_under.ensures.ordered

pub returns-clause-right : goal.returns-clause-right
returns-clause-right c = subst (λ m. AreRight m) c.self.view_is c.self.invariant
