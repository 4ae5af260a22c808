-- A dropped value leaves the keys clear that were cleared.
use Rattle.std.proofs.Common.{[], ◌∷◌}
use Rattle.mi_model.specs.RegistryGuards.{unguarded}
use Rattle.mi_model.specs.RegistryRows.{name_of_value}
use Rattle.mi_steps.specs.Follows.{drop_touch}
use Rattle.mi_steps.specs.Makes.{plan_machine}
use Rattle.mi_records.proofs.KeyLemmas.{if_ok}
use Rattle.mi_records.proofs.CleanLemmas.{drop_takes, still_clear}
use Rattle.mi_records.proofs.removal.remove_place.Goals as goal

pub returns-else-eq-clause-clear : goal.returns-else-eq-clause-clear
returns-else-eq-clause-clear c = λ held files clear.
    let q = name_of_value c.args.place.now in
    if_ok c.drop_value.result (c.drop_value.ensures.makes held files)
    (λ made. still_clear unguarded (plan_machine held files c.args.plan.now) (plan_machine held files c.drop_value.new.plan) (drop_touch q ∷ []) c.args.cleared.now (drop_takes q) made.machine clear)
