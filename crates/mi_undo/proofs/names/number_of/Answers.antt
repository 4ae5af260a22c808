use Rattle.std.proofs.Common.{◌≡◌, ℕ, ◌+◌, ◌<◌, ◌^◌, length, get_or, refl, sym, ap, subst, ◌∙◌, arith, ⊎_elim}
use Rattle.std.proofs.lemmas.List.{take_all}
use Rattle.mi_undo.specs.Names.{digits}
use Rattle.mi_undo.proofs.EntryNumbers.{digits_more, power_more, small_power, not_eight, no_digit}
use Rattle.mi_undo.proofs.names.number_of.Goals as goal

pub returns-then-bytes-ne8-clause-none : goal.returns-then-bytes-ne8-clause-none
returns-then-bytes-ne8-clause-none c = λ k. not_eight c.args.bytes.now k (λ long. omega arith)

pub loop-digit-init : goal.loop-digit-init
unfolding digits
loop-digit-init c = record { is = refl; small = omega arith }

pub returns-then-not-is_ascii_digit-clause-none : goal.returns-then-not-is_ascii_digit-clause-none
returns-then-not-is_ascii_digit-clause-none c = λ k.
    let long : length c.args.bytes.now ≡ 8 = omega arith in
    no_digit c.args.bytes.now c.loop-digit.digit-index k long c.loop-digit-test.true (λ digit. ⊎_elim (λ less. omega (arith, less, digit.0)) (λ more. omega (arith, more, digit.1)) c.if-not-is_ascii_digit.ensures.cases)

pub overflow_mul-number : goal.overflow_mul-number
overflow_mul-number c =
    let below : c.loop-digit.digit-index < 8 = omega (arith, c.loop-digit-test.true) in
    let small = small_power c.loop-digit.digit-index c.loop-digit.number c.loop-digit.invariant.small below in
    omega (arith, small)

pub overflow_add-number : goal.overflow_add-number
overflow_add-number c =
    let below : c.loop-digit.digit-index < 8 = omega (arith, c.loop-digit-test.true) in
    let small = small_power c.loop-digit.digit-index c.loop-digit.number c.loop-digit.invariant.small below in
    let digit = c.if-not-is_ascii_digit.ensures.cases in
    omega (arith, small, digit.0, digit.1, c.from.ensures)

pub loop-digit-preserved : goal.loop-digit-preserved
loop-digit-preserved c =
    let digit = c.if-not-is_ascii_digit.ensures.cases in
    let value : get_or c.args.bytes.now c.loop-digit.digit-index 0 ≡ 48 + c.from.result = omega (arith, digit.0, digit.1, c.from.ensures) in
    let small : c.from.result < 10 = omega (arith, digit.0, digit.1, c.from.ensures) in
    record {
      is = digits_more c.args.bytes.now c.loop-digit.digit-index c.loop-digit.number c.from.result c.loop-digit.invariant.is c.loop-digit-test.true value small;
      small = power_more c.loop-digit.digit-index c.loop-digit.number c.from.result c.loop-digit.invariant.small small;
    }

pub returns-clause-some : goal.returns-clause-some
returns-clause-some c =
    let at_end : c.loop-digit.digit-index ≡ 8 = omega (arith, c.loop-digit-test.false) in
    let below : c.loop-digit.number < 10 ^ 8 = subst (λ (n : ℕ). c.loop-digit.number < 10 ^ n) at_end c.loop-digit.invariant.small in
    (omega (arith, below), sym (take_all c.loop-digit.digit-index c.args.bytes.now c.loop-digit-test.false) ∙ c.loop-digit.invariant.is ∙ ap (λ (n : ℕ). digits n c.loop-digit.number) at_end)
