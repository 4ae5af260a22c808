use Rattle.std.proofs.Common.{◌≡◌, ◌≤◌, ℕ, IfOk, IsErrOf, ◌^◌, arith, subst}
use Rattle.mi_cost.specs.declared.error.CostError.TheVariants as CostError
use Rattle.mi_cost.proofs.CountLemmas.{none_counted, some_names, counted_over}
use Rattle.mi_cost.proofs.known.Sizes.cost.Goals as goal

pub returns-then-is_empty-clause-ok : goal.returns-then-is_empty-clause-ok
returns-then-is_empty-clause-ok c = none_counted c.args.image.now c.args.entries c.self.inside.sizes.entries c.args.self.now c.self.view_is (omega arith)

pub returns-clause-ok : goal.returns-clause-ok
returns-clause-ok c =
    subst (λ (x : ℕ). IfOk c.count_all.result (λ n. n ≡ x))
    (counted_over c.args.image.now c.args.entries c.self.inside.sizes c.args.self.now c.self.view_is c.count_all.ensures.ordered (some_names c.is_empty.result _ c.is_empty.ensures.1 c.if-is_empty.false)) c.count_all.ensures.ok

pub returns-clause-too_big : goal.returns-clause-too_big
returns-clause-too_big c =
    subst (λ (x : ℕ). IsErrOf c.count_all.result CostError.TooBig → 2 ^ 64 ≤ x)
    (counted_over c.args.image.now c.args.entries c.self.inside.sizes c.args.self.now c.self.view_is c.count_all.ensures.ordered (some_names c.is_empty.result _ c.is_empty.ensures.1 c.if-is_empty.false)) c.count_all.ensures.too_big
