-- Where nothing was touched, nothing goes.
use Rattle.std.proofs.Common.{List, [], ◌∷◌, subst}
use Rattle.std.specs.FinMap.{keys}
use Rattle.mi_changes.specs.Touches.{Clear}
use Rattle.mi_model.specs.Prune.{Path, goes, key_seat}
use Rattle.mi_model.specs.RegistryGuards.{kept_keys}
use Rattle.mi_steps.specs.Makes.{Makes, plan_machine}
use Rattle.mi_steps.proofs.PruneLemmas.{none_there, untouched}
use Rattle.mi_records.proofs.KeyLemmas.{keeps_not}
use Rattle.mi_records.proofs.removing.prune_touched.Goals as goal

pub returns-then-is_empty-clause-makes : goal.returns-then-is_empty-clause-makes
returns-then-is_empty-clause-makes g c = λ held files w asked.
    untouched files (plan_machine held files c.args.plan.now) c.args.plan.now.script key_seat c.args.touched.items (kept_keys w) (none_there c.args.touched.items c.args.touched.len c.is_empty.result c.args.touched.ok.0 c.is_empty.ensures c.if-is_empty.true)

pub returns-then-is_empty-clause-keeps : goal.returns-then-is_empty-clause-keeps
returns-then-is_empty-clause-keeps g c = keeps_not c.args.plan.now

pub returns-clause-makes : goal.returns-clause-makes
returns-clause-makes g c = λ held files w asked.
    let m = plan_machine held files c.args.plan.now in
    subst (λ (ps : List Path). Makes held files c.args.plan.now c.prune.new.self (Clear (goes key_seat (keys m) c.args.touched.items ps) ∷ [])) (c.in_ok-kept.ensures w asked)
    (c.in_ok-prune.ensures.makes held files)
