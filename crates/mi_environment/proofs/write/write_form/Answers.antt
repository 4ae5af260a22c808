-- By the text that the row writes.
use Rattle.std.proofs.Common.{◌≡◌, Some, None, Option, List, ℕ, subst}
use Rattle.std.specs.FinMap.{get}
use Rattle.mi_image.specs.Items.{Items, machine_over}
use Rattle.mi_model.specs.EnvironmentRows.{named_variable}
use Rattle.mi_model.specs.WriteEnvironmentStrings.{old_text}
use Rattle.mi_steps.specs.Makes.{plan_machine}
use Rattle.mi_variables.specs.Forms.{meant}
use Rattle.mi_variables.specs.Written.{written_text}
use Rattle.mi_environment.proofs.WriteLemmas.{wrote, wrote_nothing}
use Rattle.mi_environment.proofs.write.write_form.Goals as goal

pub returns-in-Ok-Some-clause-row : goal.returns-in-Ok-Some-clause-row
returns-in-Ok-Some-clause-row c = λ held files.
    let name = c.args.name.now in
    let form = meant c.args.form in
    let text : Some c.in-Ok-Some.text ≡ written_text name form (old_text (get (plan_machine held files c.args.plan.now) (named_variable name))) =
    subst (λ (items : Items). Some c.in-Ok-Some.text ≡ written_text name form (old_text (get (machine_over held files items) (named_variable name)))) c.image.ensures
    (subst (λ (t : Option (List ℕ)). t ≡ written_text name form (old_text (get (machine_over held files c.image.result.now) (named_variable name)))) c.in-Ok-Some.field-0-is (c.in-Ok-Some.ensures held files)) in
    wrote held files c.args.plan.now c.args.number name form c.put_text.new.plan c.in-Ok-Some.text c.put_text.result text (c.put_text.ensures.put held files)

pub returns-in-Ok-None-clause-row : goal.returns-in-Ok-None-clause-row
returns-in-Ok-None-clause-row c = λ held files.
    let name = c.args.name.now in
    let form = meant c.args.form in
    let text : None ≡ written_text name form (old_text (get (plan_machine held files c.args.plan.now) (named_variable name))) =
    subst (λ (items : Items). None ≡ written_text name form (old_text (get (machine_over held files items) (named_variable name)))) c.image.ensures
    (subst (λ (t : Option (List ℕ)). t ≡ written_text name form (old_text (get (machine_over held files c.image.result.now) (named_variable name)))) c.in-Ok-None.field-0-is (c.in-Ok-None.ensures held files)) in
    wrote_nothing held files c.args.plan.now c.args.number name form text
