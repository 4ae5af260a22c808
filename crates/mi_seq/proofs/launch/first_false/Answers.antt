-- From the last row to the first.
use Rattle.std.proofs.Common.{option_map}
use Rattle.mi_seq.specs.Launches.{found_as}
use Rattle.mi_seq.proofs.LaunchLemmas.{found_start, found_below, found_end}
use Rattle.mi_seq.proofs.launch.first_false.Goals as goal

pub loop-place-init : goal.loop-place-init
loop-place-init g c = found_start (g.E.Env.lookups c.args.env.now) c.args.loaded.now.launch_condition.entries c.len-place.result c.len-place.ensures.len

pub loop-place-preserved : goal.loop-place-preserved
loop-place-preserved g c = c.with_row-found.ensures (found_below (g.E.Env.lookups c.args.env.now) c.args.loaded.now.launch_condition.entries c.loop-place.place (option_map found_as c.loop-place.found) c.loop-place-test.true c.loop-place.invariant)

pub returns : goal.returns
returns g c = found_end (g.E.Env.lookups c.args.env.now) c.args.loaded.now.launch_condition.entries c.loop-place.place (option_map found_as c.loop-place.found) c.loop-place-test.false c.loop-place.invariant
