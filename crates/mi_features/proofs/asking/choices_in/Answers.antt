use Rattle.std.proofs.Common.{◌<◌, length, arith}
use Rattle.mi_schema.specs.RowsOf.{rows_in}
use Rattle.mi_features.proofs.RequestLemmas.{choice_more}
use Rattle.mi_features.proofs.asking.choices_in.Goals as goal

pub loop-place-preserved : goal.loop-place-preserved
loop-place-preserved c = λ L recorded level w all.
    let lt : c.loop-place.place < length (rows_in c.args.loaded.now).feature = let e = c.requires in let t = c.loop-place-test.true in omega (arith, e, t) in
    choice_more (rows_in c.args.loaded.now) L recorded level c.args.wishes.now w c.args.lines.now c.loop-place.place c.loop-place.choices.items c.push.new.self.items c.choice_at.result _ lt
    (λ f at. all c.loop-place.place f at) (λ f at. c.choice_at.ensures f at) c.in_ok-push.ensures.items (c.loop-place.invariant L recorded level w all)
