-- From the last row to the first.
use Rattle.mi_schema.specs.RowsOf.{rows_in}
use Rattle.mi_world.specs.Known.{AreHeld}
use Rattle.mi_world.proofs.RowLemmas.{held_start, below, at_end}
use Rattle.mi_world.proofs.known.held_of.Goals as goal

pub loop-place-init : goal.loop-place-init
unfolding rows_in
loop-place-init c = held_start c.args.loaded.now.feature_components.entries c.len-place.result c.args.names.now c.new-held.result c.len-place.ensures.len c.new-held.ensures

pub loop-place-preserved : goal.loop-place-preserved
loop-place-preserved c = c.in_ok-tell_held.ensures (below (λ n. AreHeld (rows_in c.args.loaded.now).feature_components n c.args.names.now c.loop-place.held) c.loop-place.place c.loop-place-test.true c.loop-place.invariant)

pub returns : goal.returns
returns c = at_end (λ n. AreHeld (rows_in c.args.loaded.now).feature_components n c.args.names.now c.loop-place.held) c.loop-place.place c.loop-place-test.false c.loop-place.invariant
