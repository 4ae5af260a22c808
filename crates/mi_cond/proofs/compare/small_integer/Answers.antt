use Rattle.std.proofs.Common.{◌+◌, ◌*◌, ◌-◌, ℕ, get_or, sym, ap, ◌∙◌, arith}
use Rattle.mi_cond.proofs.Comparing.{decimal-more, digits-more, no_integer, larger}
use Rattle.mi_cond.proofs.compare.small_integer.Goals as goal

pub returns-then-not-is_digit : goal.returns-then-not-is_digit
returns-then-not-is_digit c = sym (no_integer c.args.negative c.args.digits.now c.loop-digit.digit-index c.loop-digit-test.true (sym c.is_digit.ensures ∙ c.if-not-is_digit.true))

pub returns-then-size-gt-LARGEST : goal.returns-then-size-gt-LARGEST
returns-then-size-gt-LARGEST c =
    let i = c.loop-digit.digit-index in
    sym (larger c.args.negative c.args.digits.now (i + 1) (omega (arith, decimal-more c.args.digits.now i c.loop-digit-test.true, c.loop-digit.invariant.value)))

pub loop-digit-preserved : goal.loop-digit-preserved
loop-digit-preserved c =
    let i = c.loop-digit.digit-index in
    record {
      digits = digits-more c.args.digits.now i c.loop-digit-test.true c.loop-digit.invariant.digits (sym c.is_digit.ensures ∙ c.if-not-is_digit.false);
      value = ap (λ (n : ℕ). 10 * n + (get_or c.args.digits.now i 0 - 48)) c.loop-digit.invariant.value ∙ sym (decimal-more c.args.digits.now i c.loop-digit-test.true);
      small = omega arith;
    }
