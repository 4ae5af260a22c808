use Rattle.std.proofs.Common.{None, refl}
use Rattle.std.proofs.lemmas.Result.{err_from_is_err_and}
use Rattle.mi_base.specs.Reading.{items_at}
use Rattle.mi_base.proofs.LoopLemmas.{goes_on, ends, is_done}
use Rattle.mi_script.specs.Reading.{in_any_order, rec_at}
use Rattle.mi_script.proofs.reading.recs_at.Goals as goal

pub returns-in_err-rec : goal.returns-in_err-rec
returns-in_err-rec c =
    let p = err_from_is_err_and c.from_residual.result c.from_residual.ensures.1 in
    rw (p.1, p.2) (ends rec_at in_any_order c.in_err-rec.field-0.0 c.loop.recs.items c.args.count c.loop.counter c.loop.rest.now (items_at rec_at in_any_order None c.args.count c.args.bytes.now) c.loop-test.true c.in_err-rec.ensures c.loop.invariant)

pub loop-preserved : goal.loop-preserved
loop-preserved c =
    rw c.in_ok-push.ensures.items (goes_on rec_at in_any_order c.loop.recs.items c.args.count c.loop.counter c.loop.rest.now c.in_ok-rec.rec c.in_ok-rec.after.now (items_at rec_at in_any_order None c.args.count c.args.bytes.now) c.loop-test.true c.in_ok-rec.ensures refl c.loop.invariant)

pub returns : goal.returns
returns c = is_done rec_at in_any_order c.loop.recs.items c.args.count c.loop.counter c.loop.rest.now (items_at rec_at in_any_order None c.args.count c.args.bytes.now) c.loop-test.false c.loop.invariant
