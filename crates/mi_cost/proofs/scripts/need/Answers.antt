use Rattle.std.proofs.Common.{◌≡◌, ◌≤◌, ℕ, IfOk, IsErrOf, ◌^◌, subst}
use Rattle.mi_cost.specs.declared.error.CostError.TheVariants as CostError
use Rattle.mi_cost.proofs.CostLemmas.{told_cost}
use Rattle.mi_cost.proofs.scripts.need.Goals as goal

pub returns-clause-ok : goal.returns-clause-ok
returns-clause-ok c held files there =
    subst (λ (x : ℕ). IfOk c.cost.result (λ n. n ≡ x))
    (told_cost held files c.args.image.now c.args.scripts.now _ c.in_ok-sizes.entries c.in_ok-sizes.ensures.sizes c.in_ok-sizes.ensures.entries there) c.cost.ensures.ok

pub returns-clause-too_big : goal.returns-clause-too_big
returns-clause-too_big c held files there =
    subst (λ (x : ℕ). IsErrOf c.cost.result CostError.TooBig → 2 ^ 64 ≤ x)
    (told_cost held files c.args.image.now c.args.scripts.now _ c.in_ok-sizes.entries c.in_ok-sizes.ensures.sizes c.in_ok-sizes.ensures.entries there) c.cost.ensures.too_big
