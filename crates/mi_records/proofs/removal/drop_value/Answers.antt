use Rattle.std.proofs.Common.{List, ℕ, [], ◌∷◌, subst}
use Rattle.mi_steps.specs.Follows.{drop_touch}
use Rattle.mi_steps.specs.Makes.{Makes}
use Rattle.mi_records.proofs.removal.drop_value.Goals as goal

pub returns-clause-makes : goal.returns-clause-makes
returns-clause-makes c = λ held files.
    subst (λ (n : List ℕ). Makes held files c.args.plan.now c.drop_name.new.self (drop_touch n ∷ [])) c.in_ok-name.ensures (c.in_ok-drop_name.ensures.makes held files)
