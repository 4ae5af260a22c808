use Rattle.std.proofs.Common.{◌-◌, ◌∙◌, sym, take, drop, length, arith}
use Rattle.std.proofs.lemmas.List.{take_rest}
use Rattle.mi_cond.proofs.FrontFinds.{digits_none, digits_here_in, digits_larger_in, digits_more_in, digits_end_in}
use Rattle.mi_cond.proofs.front.digits_at.Goals as goal

pub loop-i-init : goal.loop-i-init
loop-i-init c = digits_none c.args.negative c.args.rest.now c.args.from

pub returns-then-not-is_digit : goal.returns-then-not-is_digit
returns-then-not-is_digit c =
    let rest = c.args.rest.now in
    let from = c.args.from in
    c.integer.ensures ∙ digits_here_in c.args.negative rest (take (length rest - from) (drop from rest)) from c.loop-i.i c.loop-i.size (take_rest rest from) c.loop-i-test.true c.loop-i.invariant (sym c.is_digit.ensures ∙ c.if-not-is_digit.true)

pub returns-then-size-gt-LARGEST : goal.returns-then-size-gt-LARGEST
returns-then-size-gt-LARGEST c =
    let rest = c.args.rest.now in
    let from = c.args.from in
    digits_larger_in c.args.negative rest (take (length rest - from) (drop from rest)) from c.loop-i.i c.loop-i.size (take_rest rest from) c.loop-i-test.true c.loop-i.invariant (sym c.is_digit.ensures ∙ c.if-not-is_digit.false) c.if-size-gt-LARGEST.true

pub loop-i-preserved : goal.loop-i-preserved
loop-i-preserved c =
    let rest = c.args.rest.now in
    let from = c.args.from in
    digits_more_in c.args.negative rest (take (length rest - from) (drop from rest)) from c.loop-i.i c.loop-i.size (take_rest rest from) c.loop-i-test.true c.loop-i.invariant (sym c.is_digit.ensures ∙ c.if-not-is_digit.false) c.if-size-gt-LARGEST.false

pub returns : goal.returns
returns c =
    let rest = c.args.rest.now in
    let from = c.args.from in
    c.integer-2.ensures ∙ digits_end_in c.args.negative rest (take (length rest - from) (drop from rest)) from c.loop-i.i c.loop-i.size (take_rest rest from) c.requires (omega arith) (omega arith) c.loop-i.invariant
