use Rattle.std.proofs.Common.{◌≡◌, option_map}
use Rattle.mi_seq.specs.Launches.{found_as, found_from}
use Rattle.mi_seq.proofs.launch.first_false.Given as goal

abbrev pub invariant-loop-place : goal.invariant-loop-place
invariant-loop-place g l = option_map found_as l.found ≡ found_from (g.E.Env.lookups l.env) l.loaded.launch_condition.entries l.place

abbrev pub decreases-loop-place : goal.decreases-loop-place
decreases-loop-place g l = l.place
