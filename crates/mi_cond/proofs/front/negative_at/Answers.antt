use Rattle.std.proofs.Common.{sym, subst, ◌∙◌}
use Rattle.mi_cond.specs.declared.front.Front.{Front}
use Rattle.mi_cond.specs.Moves.{AfterMinus}
use Rattle.mi_cond.specs.Fronts.{Follows, WantsValue}
use Rattle.mi_cond.proofs.FrontLaws.{negative_is, negative_dies}
use Rattle.mi_cond.proofs.FrontFinds.{digit_there, no_digit_there}
use Rattle.mi_cond.proofs.front.negative_at.Goals as goal

pub returns-then-is_digit_at : goal.returns-then-is_digit_at
returns-then-is_digit_at c =
    let there = digit_there c.args.rest.now 1 (sym c.is_digit_at.ensures ∙ c.if-is_digit_at.true) in
    subst (λ (f : Front). Follows 1 AfterMinus WantsValue c.args.rest.now f) (sym c.digits_at.ensures) (negative_is c.args.rest.now there.0 there.1)

pub returns-else-is_digit_at : goal.returns-else-is_digit_at
returns-else-is_digit_at c = negative_dies c.args.rest.now c.requires (no_digit_there c.args.rest.now 1 (sym c.is_digit_at.ensures ∙ c.if-is_digit_at.false))
