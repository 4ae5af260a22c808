use Rattle.std.proofs.Common.{List, [], ◌∷◌, subst}
use Rattle.std.specs.FinMap.{keys}
use Rattle.mi_changes.specs.Touches.{Clear}
use Rattle.mi_model.specs.Prune.{Path, goes, key_seat}
use Rattle.mi_model.specs.RegistryGuards.{kept_keys}
use Rattle.mi_steps.specs.Makes.{Makes, plan_machine}
use Rattle.mi_clients.proofs.counts.prune_shared.Goals as goal

pub returns-clause-makes : goal.returns-clause-makes
returns-clause-makes g c = λ held files w asked.
    let m = plan_machine held files c.args.plan.now in
    subst (λ (ps : List Path). Makes held files c.args.plan.now c.prune.new.self (Clear (goes key_seat (keys m) ps (kept_keys w)) ∷ [])) c.in_ok-touched.ensures
    (subst (λ (ps : List Path). Makes held files c.args.plan.now c.prune.new.self (Clear (goes key_seat (keys m) c.in_ok-touched.touched.items ps) ∷ [])) (c.in_ok-kept.ensures w asked)
    (c.in_ok-prune.ensures.makes held files))
