use Rattle.std.proofs.Common.{◌≡◌, ℕ, take, inr, sym, subst, arith}
use Rattle.mi_print.proofs.TreeCodeLemmas.{common_at, min_end}
use Rattle.mi_print.proofs.trees.common_len.Goals as goal

pub returns-then-former-i-clause-common : goal.returns-then-former-i-clause-common
returns-then-former-i-clause-common c =
    sym (common_at c.loop-i.i c.args.former.now c.args.path.now c.loop-i.invariant (omega (arith, c.loop-i-test.true, c.min-size.ensures)) (omega (arith, c.loop-i-test.true, c.min-size.ensures)) (inr (inr c.if-former-i.true)))

pub returns-clause-common : goal.returns-clause-common
returns-clause-common c =
    let ended : c.loop-i.i ≡ c.min-size.result = omega (arith, c.loop-i-test.false, c.loop-i.auto.i-end) in
    let P : ℕ → Type 0 = λ k. take k c.args.former.now ≡ take k c.args.path.now in
    sym (min_end c.args.former.now c.args.path.now c.min-size.result c.min-size.ensures (subst P ended c.loop-i.invariant))
