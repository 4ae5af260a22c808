-- By the form.
use Rattle.std.proofs.Common.{[], ◌∷◌, sym, subst}
use Rattle.std.specs.Prelude.{OnOk}
use Rattle.mi_base.specs.Machine.{as_variable}
use Rattle.mi_changes.specs.Touches.{Set}
use Rattle.mi_model.specs.RemoveEnvironmentStrings.{variable_less}
use Rattle.mi_steps.specs.Makes.{Makes}
use Rattle.mi_variables.specs.Forms.{meant}
use Rattle.mi_variables.specs.declared.form.Form.{Form}
use Rattle.mi_environment.proofs.take.take_form.Goals as goal

pub returns-in-Null-clause-makes : goal.returns-in-Null-clause-makes
returns-in-Null-clause-makes c = λ held files.
    subst (λ (f : Form). OnOk c.drop_at.result (Makes held files c.args.plan.now c.drop_at.new.plan (Set c.args.at.now (λ old. variable_less c.args.leaving (meant f) (as_variable old)) ∷ []))) (sym c.in-Null.is) (c.drop_at.ensures.makes held files)

pub returns-in-Whole-clause-makes : goal.returns-in-Whole-clause-makes
returns-in-Whole-clause-makes c = λ held files.
    subst (λ (f : Form). OnOk c.take_whole.result (Makes held files c.args.plan.now c.take_whole.new.plan (Set c.args.at.now (λ old. variable_less c.args.leaving (meant f) (as_variable old)) ∷ []))) (sym c.in-Whole.is) (c.take_whole.ensures.makes held files)

pub returns-in-Behind-clause-makes : goal.returns-in-Behind-clause-makes
returns-in-Behind-clause-makes c = λ held files.
    subst (λ (f : Form). OnOk c.take_part.result (Makes held files c.args.plan.now c.take_part.new.plan (Set c.args.at.now (λ old. variable_less c.args.leaving (meant f) (as_variable old)) ∷ []))) (sym c.in-Behind.is) (c.take_part.ensures.makes held files)

pub returns-in-Before-clause-makes : goal.returns-in-Before-clause-makes
returns-in-Before-clause-makes c = λ held files.
    subst (λ (f : Form). OnOk c.take_part-in-Before.result (Makes held files c.args.plan.now c.take_part-in-Before.new.plan (Set c.args.at.now (λ old. variable_less c.args.leaving (meant f) (as_variable old)) ∷ []))) (sym c.in-Before.is) (c.take_part-in-Before.ensures.makes held files)
