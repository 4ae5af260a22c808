-- Over the keys that the rows name.
use Rattle.std.proofs.Common.{List, [], ◌∷◌, subst}
use Rattle.std.specs.FinMap.{keys}
use Rattle.mi_changes.specs.Touches.{Clear}
use Rattle.mi_model.specs.Prune.{Path, goes, key_seat}
use Rattle.mi_model.specs.RegistryGuards.{kept_keys}
use Rattle.mi_steps.specs.Makes.{Makes, plan_machine}
use Rattle.mi_records.proofs.RemovingLemmas.{keys_are}
use Rattle.mi_records.proofs.removing.prune_named.Goals as goal

pub returns-clause-makes : goal.returns-clause-makes
returns-clause-makes g c = λ held files w asked one two.
    let L = g.S.Env.lookups c.args.seen.now in
    let choices = g.S.Sees.choices c.args.seen.now in
    let m = plan_machine held files c.args.plan.now in
    let touched = keys_are L choices (g.S.Sees.rows c.args.seen.now) w asked c.args.leaving.now c.args.local.now c.in_ok-touched.touched.items c.add_removal_keys.new.keys.items one two c.in_ok-touched.ensures c.in_ok-add_removal_keys.ensures in
    subst (λ (ps : List Path). Makes held files c.args.plan.now c.prune_touched.new.plan (Clear (goes key_seat (keys m) ps (kept_keys w)) ∷ [])) touched (c.in_ok-prune_touched.ensures.makes held files w asked)
