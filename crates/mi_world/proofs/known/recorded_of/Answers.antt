-- From the last row to the first.
use Rattle.mi_schema.specs.declared.typed_rows.FeatureRow.{FeatureRow}
use Rattle.mi_schema.specs.RowsOf.{rows_in}
use Rattle.mi_world.specs.Ground.{is_set}
use Rattle.mi_world.specs.Known.{AreRecorded}
use Rattle.mi_world.proofs.RowLemmas.{told_start, below, at_end}
use Rattle.mi_world.proofs.known.recorded_of.Goals as goal

pub loop-place-init : goal.loop-place-init
unfolding rows_in
loop-place-init c = told_start (λ (r : FeatureRow). r.feature) (λ r. is_set c.args.names.now r.feature) c.args.loaded.now.feature.entries c.len-place.result c.new-flags.result c.len-place.ensures.len c.new-flags.ensures

pub loop-place-preserved : goal.loop-place-preserved
loop-place-preserved c = c.in_ok-tell_recorded.ensures (below (λ n. AreRecorded (rows_in c.args.loaded.now).feature (is_set c.args.names.now) n c.loop-place.flags) c.loop-place.place c.loop-place-test.true c.loop-place.invariant)

pub returns : goal.returns
returns c = at_end (λ n. AreRecorded (rows_in c.args.loaded.now).feature (is_set c.args.names.now) n c.loop-place.flags) c.loop-place.place c.loop-place-test.false c.loop-place.invariant
