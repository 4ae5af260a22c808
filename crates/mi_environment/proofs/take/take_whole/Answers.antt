-- A leaving row takes the variable, whatever its value.
use Rattle.std.proofs.Common.{Bool, [], ◌∷◌, sym, subst}
use Rattle.std.specs.Prelude.{OnOk}
use Rattle.mi_base.specs.Machine.{as_variable}
use Rattle.mi_changes.specs.Touches.{Set}
use Rattle.mi_model.specs.EnvironmentRows.{Whole}
use Rattle.mi_model.specs.RemoveEnvironmentStrings.{variable_less}
use Rattle.mi_steps.specs.Makes.{Makes}
use Rattle.mi_environment.proofs.take.take_whole.Goals as goal

pub returns-then-leaving-clause-makes : goal.returns-then-leaving-clause-makes
returns-then-leaving-clause-makes c = λ held files.
    subst (λ (b : Bool). OnOk c.drop_at.result (Makes held files c.args.plan.now c.drop_at.new.plan (Set c.args.at.now (λ old. variable_less b (Whole c.args.text.now) (as_variable old)) ∷ []))) (sym c.if-leaving.true) (c.drop_at.ensures.makes held files)

pub returns-else-leaving-clause-makes : goal.returns-else-leaving-clause-makes
returns-else-leaving-clause-makes c = λ held files.
    subst (λ (b : Bool). OnOk c.take_value.result (Makes held files c.args.plan.now c.take_value.new.plan (Set c.args.at.now (λ old. variable_less b (Whole c.args.text.now) (as_variable old)) ∷ []))) (sym c.if-leaving.false) (c.take_value.ensures.makes held files)
