-- By what is left.
use Rattle.std.proofs.Common.{◌≡◌, Some, None, Option, subst}
use Rattle.std.specs.Prelude.{option_map, IfSome}
use Rattle.std.specs.FinMap.{get}
use Rattle.mi_base.specs.declared.entry.Entry.TheVariants as entry
use Rattle.mi_base.specs.declared.entry.Variable.{Variable}
use Rattle.mi_base.specs.Machine.{as_variable}
use Rattle.mi_image.specs.Items.{Items, machine_over}
use Rattle.mi_model.specs.RemoveEnvironmentStrings.{less_part}
use Rattle.mi_steps.specs.Makes.{plan_machine}
use Rattle.mi_records.proofs.KeyLemmas.{if_ok}
use Rattle.mi_environment.specs.Variables.{IsHeldAt}
use Rattle.mi_environment.proofs.TakeLemmas.{taken_whole, taken_less}
use Rattle.mi_environment.proofs.take.take_part.Goals as goal

pub returns-in-Ok-Some-clause-makes : goal.returns-in-Ok-Some-clause-makes
returns-in-Ok-Some-clause-makes c = λ held files.
    let m = plan_machine held files c.args.plan.now in
    let q = c.args.at.now in
    let part = c.args.part.now in
    let v = c.in-Ok-Some.variable in
    let left : Some (entry.Variable v) ≡ less_part part (as_variable (get m q)) =
    subst (λ (items : Items). Some (entry.Variable v) ≡ less_part part (as_variable (get (machine_over held files items) q))) c.image.ensures
    (subst (λ (o : Option Variable). option_map entry.Variable o ≡ less_part part (as_variable (get (machine_over held files c.image.result.now) q))) c.in-Ok-Some.field-0-is (c.in-Ok-Some.ensures.left held files)) in
    let named = subst (λ (o : Option Variable). IfSome o (IsHeldAt q)) c.in-Ok-Some.field-0-is c.in-Ok-Some.ensures.named in
    if_ok c.put_variable.result (c.put_variable.ensures.makes held files)
    (λ made. taken_less files m (plan_machine held files c.put_variable.new.plan) c.args.plan.now.script c.put_variable.new.plan.script q (λ old. less_part part (as_variable old)) v named left made)

pub returns-in-Ok-None-clause-makes : goal.returns-in-Ok-None-clause-makes
returns-in-Ok-None-clause-makes c = λ held files.
    let m = plan_machine held files c.args.plan.now in
    let q = c.args.at.now in
    let part = c.args.part.now in
    let left : None ≡ less_part part (as_variable (get m q)) =
    subst (λ (items : Items). None ≡ less_part part (as_variable (get (machine_over held files items) q))) c.image.ensures
    (subst (λ (o : Option Variable). option_map entry.Variable o ≡ less_part part (as_variable (get (machine_over held files c.image.result.now) q))) c.in-Ok-None.field-0-is (c.in-Ok-None.ensures.left held files)) in
    if_ok c.drop_at.result (c.drop_at.ensures.makes held files)
    (λ made. taken_whole files m (plan_machine held files c.drop_at.new.plan) c.args.plan.now.script c.drop_at.new.plan.script q (λ old. less_part part (as_variable old)) left made)
