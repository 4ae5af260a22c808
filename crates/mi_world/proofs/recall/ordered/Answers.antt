-- From the last row to the first.
use Rattle.mi_schema.specs.RowsOf.{rows_in}
use Rattle.mi_world.specs.Recall.{AreOrdered}
use Rattle.mi_world.proofs.RowLemmas.{below, at_end}
use Rattle.mi_world.proofs.RecallLemmas.{ordered_start}
use Rattle.mi_world.proofs.recall.ordered.Goals as goal

pub loop-place-init : goal.loop-place-init
unfolding rows_in
loop-place-init c = ordered_start c.args.loaded.now.component.entries c.len-place.result c.new-rows.result.entries c.len-place.ensures.len c.new-rows.ensures.empty

pub loop-place-preserved : goal.loop-place-preserved
loop-place-preserved c = c.in_ok-put_at.ensures (below (λ n. AreOrdered (rows_in c.args.loaded.now).component n c.loop-place.rows.entries) c.loop-place.place c.loop-place-test.true c.loop-place.invariant)

pub returns : goal.returns
returns c = at_end (λ n. AreOrdered (rows_in c.args.loaded.now).component n c.loop-place.rows.entries) c.loop-place.place c.loop-place-test.false c.loop-place.invariant
