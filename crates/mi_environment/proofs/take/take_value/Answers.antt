-- Another value stays.
use Rattle.std.proofs.Common.{◌≡◌, false, ap, sym, ◌∙◌}
use Rattle.std.specs.FinMap.{get}
use Rattle.mi_base.specs.Machine.{as_variable}
use Rattle.mi_image.specs.Items.{Items, machine_over}
use Rattle.mi_model.specs.RemoveEnvironmentStrings.{less_value}
use Rattle.mi_steps.specs.Makes.{plan_machine}
use Rattle.mi_records.proofs.KeyLemmas.{if_ok}
use Rattle.mi_environment.specs.Variables.{has_other_value}
use Rattle.mi_environment.proofs.TakeLemmas.{taken_whole, value_goes, stays_so}
use Rattle.mi_environment.proofs.take.take_value.Goals as goal

pub returns-then-has_other_value-clause-makes : goal.returns-then-has_other_value-clause-makes
returns-then-has_other_value-clause-makes c = λ held files.
    let q = c.args.at.now in
    let text = c.args.text.now in
    stays_so files (plan_machine held files c.args.plan.now) c.args.plan.now.script q text c.requires.plain
    (ap (λ (items : Items). has_other_value text (as_variable (get (machine_over held files items) q))) (sym c.image.ensures) ∙ sym (c.has_other_value.ensures held files) ∙ c.if-has_other_value.true)

pub returns-clause-makes : goal.returns-clause-makes
returns-clause-makes c = λ held files.
    let m = plan_machine held files c.args.plan.now in
    let q = c.args.at.now in
    let text = c.args.text.now in
    let other : has_other_value text (as_variable (get m q)) ≡ false = ap (λ (items : Items). has_other_value text (as_variable (get (machine_over held files items) q))) (sym c.image.ensures) ∙ sym (c.has_other_value.ensures held files) ∙ c.if-has_other_value.false in
    if_ok c.drop_at.result (c.drop_at.ensures.makes held files)
    (λ made. taken_whole files m (plan_machine held files c.drop_at.new.plan) c.args.plan.now.script c.drop_at.new.plan.script q (λ old. less_value text (as_variable old)) (value_goes text (as_variable (get m q)) other) made)
