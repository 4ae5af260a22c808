-- The refusal of the first row in key order that is false.
use Rattle.std.proofs.Common.{Some, None, ap, ◌∙◌}
use Rattle.mi_schema.specs.RowsOf.{rows_in}
use Rattle.mi_seq.specs.Launches.{found_as}
use Rattle.mi_seq.proofs.LaunchLemmas.{refusal_of_all}
use Rattle.mi_seq.proofs.launch.launch_refusal.Goals as goal

pub returns-in_ok-cause-in-Some : goal.returns-in_ok-cause-in-Some
unfolding rows_in
returns-in_ok-cause-in-Some g c =
    ap Some c.in_ok-cause-in-Some.ensures
    ∙ refusal_of_all (g.E.Env.lookups c.args.env.now) (rows_in c.args.loaded.now) (Some (found_as c.in-Some.found)) c.keys_apart.ensures.launch_condition c.in-Some.ensures

pub returns-in-None : goal.returns-in-None
unfolding rows_in
returns-in-None g c = refusal_of_all (g.E.Env.lookups c.args.env.now) (rows_in c.args.loaded.now) None c.keys_apart.ensures.launch_condition c.in-None.ensures
