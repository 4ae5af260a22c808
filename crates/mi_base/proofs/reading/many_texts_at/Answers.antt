use Rattle.std.proofs.Common.{◌≡◌, true, false, None}
use Rattle.std.proofs.lemmas.Result.{err_from_is_err_and}
use Rattle.mi_base.specs.Reading.{text_at, text_follows, items_at}
use Rattle.mi_base.proofs.LoopLemmas.{last_of, goes_on, ends, refused, is_done}
use Rattle.mi_base.proofs.reading.many_texts_at.Goals as goal

pub returns-in_err-text : goal.returns-in_err-text
returns-in_err-text c =
    let p = err_from_is_err_and c.from_residual.result c.from_residual.ensures.1 in
    rw (p.1, p.2) (ends text_at (text_follows c.args.order) c.in_err-text.field-0.0 c.loop.items.items c.args.count c.loop.counter c.loop.rest.now (items_at text_at (text_follows c.args.order) None c.args.count c.args.bytes.now) c.loop-test.true c.in_err-text.ensures c.loop.invariant)

pub returns-then-not-text_follows : goal.returns-then-not-text_follows
returns-then-not-text_follows c =
    let wrong : (text_follows c.args.order) (last_of c.loop.items.items) c.in_ok-text.text ≡ false = cc in
    refused text_at (text_follows c.args.order) c.loop.items.items c.args.count c.loop.counter c.loop.rest.now c.in_ok-text.text c.in_ok-text.after.now (items_at text_at (text_follows c.args.order) None c.args.count c.args.bytes.now) c.loop-test.true c.in_ok-text.ensures wrong c.loop.invariant

pub loop-preserved : goal.loop-preserved
loop-preserved c =
    let right : (text_follows c.args.order) (last_of c.loop.items.items) c.in_ok-text.text ≡ true = cc in
    rw c.in_ok-push.ensures.items (goes_on text_at (text_follows c.args.order) c.loop.items.items c.args.count c.loop.counter c.loop.rest.now c.in_ok-text.text c.in_ok-text.after.now (items_at text_at (text_follows c.args.order) None c.args.count c.args.bytes.now) c.loop-test.true c.in_ok-text.ensures right c.loop.invariant)

pub returns : goal.returns
returns c = rw c.from_vec.ensures (is_done text_at (text_follows c.args.order) c.loop.items.items c.args.count c.loop.counter c.loop.rest.now (items_at text_at (text_follows c.args.order) None c.args.count c.args.bytes.now) c.loop-test.false c.loop.invariant)
