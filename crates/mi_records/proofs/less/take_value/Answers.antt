-- By the list that the text is.
use Rattle.std.proofs.Common.{Option, [], ◌∷◌, sym, subst, ◌∙◌}
use Rattle.std.specs.Prelude.{OnOk, option_and_then}
use Rattle.mi_changes.specs.Touches.{Set}
use Rattle.mi_model.specs.RemoveRegistryValues.{less_added, value_less}
use Rattle.mi_regval.specs.ListTexts.{added_of}
use Rattle.mi_regval.specs.declared.lists.ListText.{ListText}
use Rattle.mi_steps.specs.Makes.{Makes}
use Rattle.mi_records.proofs.less.take_value.Goals as goal

pub returns-in-Ok-Some-clause-makes : goal.returns-in-Ok-Some-clause-makes
unfolding value_less
returns-in-Ok-Some-clause-makes c = λ held files.
    subst (λ (t : Option ListText). OnOk c.take_added-done.result (Makes held files c.args.plan.now c.take_added-done.new.plan (Set c.args.name.now (less_added (option_and_then added_of t)) ∷ []))) (sym c.in-Ok-Some.field-0-is ∙ c.in-Ok-Some.ensures)
    (c.take_added-done.ensures.makes held files)

pub returns-in-Ok-None-clause-makes : goal.returns-in-Ok-None-clause-makes
unfolding value_less
returns-in-Ok-None-clause-makes c = λ held files.
    subst (λ (t : Option ListText). OnOk c.drop_name.result (Makes held files c.args.plan.now c.drop_name.new.self (Set c.args.name.now (less_added (option_and_then added_of t)) ∷ []))) (sym c.in-Ok-None.field-0-is ∙ c.in-Ok-None.ensures)
    (c.drop_name.ensures.makes held files)
