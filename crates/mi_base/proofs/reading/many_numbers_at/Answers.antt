use Rattle.std.proofs.Common.{◌≡◌, true, false, None}
use Rattle.std.proofs.lemmas.Result.{err_from_is_err_and}
use Rattle.std.specs.Prelude.{nat_lt}
use Rattle.std.specs.Int.{w16}
use Rattle.mi_base.specs.Limits.{is_above}
use Rattle.mi_base.specs.Reading.{number_at, items_at}
use Rattle.mi_base.proofs.LoopLemmas.{last_of, goes_on, ends, refused, is_done}
use Rattle.mi_base.proofs.reading.many_numbers_at.Goals as goal

pub returns-in_err-number : goal.returns-in_err-number
returns-in_err-number c =
    let p = err_from_is_err_and c.from_residual.result c.from_residual.ensures.1 in
    rw (p.1, p.2) (ends (number_at w16) (is_above nat_lt) c.in_err-number.field-0.0 c.loop.items.items c.args.count c.loop.counter c.loop.rest.now (items_at (number_at w16) (is_above nat_lt) None c.args.count c.args.bytes.now) c.loop-test.true c.in_err-number.ensures c.loop.invariant)

pub returns-then-not-is_above : goal.returns-then-not-is_above
returns-then-not-is_above c =
    let wrong : (is_above nat_lt) (last_of c.loop.items.items) c.in_ok-number.number ≡ false = cc in
    refused (number_at w16) (is_above nat_lt) c.loop.items.items c.args.count c.loop.counter c.loop.rest.now c.in_ok-number.number c.in_ok-number.after.now (items_at (number_at w16) (is_above nat_lt) None c.args.count c.args.bytes.now) c.loop-test.true c.in_ok-number.ensures wrong c.loop.invariant

pub loop-preserved : goal.loop-preserved
loop-preserved c =
    let right : (is_above nat_lt) (last_of c.loop.items.items) c.in_ok-number.number ≡ true = cc in
    rw c.in_ok-push.ensures.items (goes_on (number_at w16) (is_above nat_lt) c.loop.items.items c.args.count c.loop.counter c.loop.rest.now c.in_ok-number.number c.in_ok-number.after.now (items_at (number_at w16) (is_above nat_lt) None c.args.count c.args.bytes.now) c.loop-test.true c.in_ok-number.ensures right c.loop.invariant)

pub returns : goal.returns
returns c = rw c.from_vec.ensures (is_done (number_at w16) (is_above nat_lt) c.loop.items.items c.args.count c.loop.counter c.loop.rest.now (items_at (number_at w16) (is_above nat_lt) None c.args.count c.args.bytes.now) c.loop-test.false c.loop.invariant)
