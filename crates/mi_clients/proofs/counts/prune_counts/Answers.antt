-- Where none leaves, nothing goes.
use Rattle.std.proofs.Common.{true, false, List, [], ◌∷◌, sym, subst, ◌∙◌}
use Rattle.std.specs.Prelude.{OnOk}
use Rattle.std.specs.FinMap.{keys}
use Rattle.mi_changes.specs.Touches.{Clear}
use Rattle.mi_model.specs.Prune.{Path, goes, key_seat}
use Rattle.mi_model.specs.ProcessComponents.{touched_counts}
use Rattle.mi_model.specs.RegistryGuards.{kept_keys}
use Rattle.mi_steps.specs.Makes.{Makes, plan_machine}
use Rattle.mi_steps.proofs.PruneLemmas.{untouched}
use Rattle.mi_clients.proofs.CountLemmas.{touched_is}
use Rattle.mi_clients.proofs.counts.prune_counts.Goals as goal

pub returns-then-takes-clause-makes : goal.returns-then-takes-clause-makes
returns-then-takes-clause-makes g c = λ held files w asked is.
    let m = plan_machine held files c.args.plan.now in
    subst (λ (ps : List Path). OnOk c.prune_shared.result (Makes held files c.args.plan.now c.prune_shared.new.plan (Clear (goes key_seat (keys m) ps (kept_keys w)) ∷ []))) (touched_is w true (sym c.if-takes.true ∙ is)) (c.prune_shared.ensures.makes held files w asked)

pub returns-else-takes-clause-makes : goal.returns-else-takes-clause-makes
returns-else-takes-clause-makes g c = λ held files w asked is.
    untouched files (plan_machine held files c.args.plan.now) c.args.plan.now.script key_seat (touched_counts w) (kept_keys w) (touched_is w false (sym c.if-takes.false ∙ is))
