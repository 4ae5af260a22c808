-- By what stands there.
use Rattle.std.proofs.Common.{◌≡◌, Option, Some, subst}
use Rattle.std.specs.Prelude.{IfSome}
use Rattle.std.specs.FinMap.{get}
use Rattle.std.specs.Option.{option_or}
use Rattle.mi_base.specs.declared.entry.Entry.{Entry}
use Rattle.mi_image.specs.Items.{Items, machine_over}
use Rattle.mi_model.specs.SharedCounts.{lowered}
use Rattle.mi_steps.specs.Makes.{plan_machine}
use Rattle.mi_count_steps.specs.Counts.{MayStandAt}
use Rattle.mi_records.proofs.KeyLemmas.{if_ok}
use Rattle.mi_records.proofs.LessLemmas.{less_put}
use Rattle.mi_count_steps.proofs.CountLemmas.{lowered_same}
use Rattle.mi_count_steps.proofs.counts.lower_at.Goals as goal

pub put_where_right-requires : goal.put_where_right-requires
put_where_right-requires c = (subst (λ (o : Option Entry). IfSome o (MayStandAt c.args.name.now)) c.in-Ok-Some.field-0-is c.in-Ok-Some.ensures.right).1

pub returns-in-Ok-Some-clause-makes : goal.returns-in-Ok-Some-clause-makes
returns-in-Ok-Some-clause-makes c = λ held files.
    let m = plan_machine held files c.args.plan.now in
    let q = c.args.name.now in
    let e = c.in-Ok-Some.entry in
    let left : Some e ≡ lowered (get m q) =
    subst (λ (items : Items). Some e ≡ lowered (get (machine_over held files items) q)) c.image.ensures
    (subst (λ (o : Option Entry). option_or o (get (machine_over held files c.image.result.now) q) ≡ lowered (get (machine_over held files c.image.result.now) q)) c.in-Ok-Some.field-0-is (c.in-Ok-Some.ensures.left held files)) in
    let named = (subst (λ (o : Option Entry). IfSome o (MayStandAt q)) c.in-Ok-Some.field-0-is c.in-Ok-Some.ensures.right).0 in
    if_ok c.put_where_right.result (c.put_where_right.ensures.makes held files)
    (λ made. less_put files m (plan_machine held files c.put_where_right.new.plan) c.args.plan.now.script c.put_where_right.new.plan.script q e lowered named left made)

pub returns-in-Ok-None-clause-makes : goal.returns-in-Ok-None-clause-makes
returns-in-Ok-None-clause-makes c = λ held files.
    let m = plan_machine held files c.args.plan.now in
    let q = c.args.name.now in
    let left : get m q ≡ lowered (get m q) =
    subst (λ (items : Items). get (machine_over held files items) q ≡ lowered (get (machine_over held files items) q)) c.image.ensures
    (subst (λ (o : Option Entry). option_or o (get (machine_over held files c.image.result.now) q) ≡ lowered (get (machine_over held files c.image.result.now) q)) c.in-Ok-None.field-0-is (c.in-Ok-None.ensures.left held files)) in
    lowered_same files m c.args.plan.now.script q c.requires left
