use Rattle.std.proofs.Common.{subst, sym}
use Rattle.std.specs.Prelude.{string_bytes}
use Rattle.mi_image.specs.Items.{AreRight}
use Rattle.mi_image.specs.Firsts.{IsFirstOf}
use Rattle.mi_image.proofs.LengthLemmas.{as_none, none_in_range, first_in_range}
use Rattle.mi_image.proofs.image.Image.first_from.Goals as goal

pub returns-in_err-name-clause-none : goal.returns-in_err-name-clause-none
returns-in_err-name-clause-none c = as_none c.from_residual.result _ (none_in_range c.self.inside.items c.args.self.now (string_bytes c.args.from.now) c.range.result c.self.view_is c.range.ensures.ordered (c.range.ensures.between tt) c.in_err-name.ensures.steps.0)

pub returns-clause-first : goal.returns-clause-first
returns-clause-first c = subst (λ i. IsFirstOf c.args.self.now (string_bytes c.args.from.now) (string_bytes c.in_ok-name.name.now) i) (sym c.as_ref.ensures)
    (first_in_range c.self.inside.items c.args.self.now (string_bytes c.args.from.now) c.range.result c.next.new.self c.in_ok-name.name.now c.in_ok-name.item.now c.self.view_is c.range.ensures.ordered (c.range.ensures.between tt) c.in_ok-name.ensures.steps)

pub returns-clause-right : goal.returns-clause-right
returns-clause-right c = subst (λ m. AreRight m) c.self.view_is c.self.invariant

pub returns-in_err-name-clause-right : goal.returns-in_err-name-clause-right
returns-in_err-name-clause-right c = subst (λ m. AreRight m) c.self.view_is c.self.invariant
