-- By what is left.
use Rattle.std.proofs.Common.{◌≡◌, Some, None, subst}
use Rattle.std.specs.FinMap.{get}
use Rattle.mi_base.specs.declared.entry.Entry.TheVariants as entry
use Rattle.mi_base.specs.declared.entry.RegValue.TheVariants as value
use Rattle.mi_image.specs.Items.{Items, machine_over}
use Rattle.mi_model.specs.RemoveRegistryValues.{less_items}
use Rattle.mi_steps.specs.Makes.{plan_machine}
use Rattle.mi_steps.proofs.FollowLemmas.{same_touch}
use Rattle.mi_records.specs.Removing.{left_of, MayBeLeftAt}
use Rattle.mi_records.specs.declared.less.Rest.{Rest}
use Rattle.mi_records.proofs.KeyLemmas.{if_ok}
use Rattle.mi_records.proofs.LessLemmas.{less_same, less_put}
use Rattle.mi_records.proofs.less.take_items.Goals as goal

pub returns-in-Ok-Same-clause-makes : goal.returns-in-Ok-Same-clause-makes
returns-in-Ok-Same-clause-makes c = λ held files.
    let m = plan_machine held files c.args.plan.now in
    let q = c.args.name.now in
    let taken = c.args.items.now in
    let left : get m q ≡ less_items taken (get m q) =
    subst (λ (items : Items). get (machine_over held files items) q ≡ less_items taken (get (machine_over held files items) q)) c.image.ensures
    (subst (λ (r : Rest). left_of r (get (machine_over held files c.image.result.now) q) ≡ less_items taken (get (machine_over held files c.image.result.now) q)) c.in-Ok-Same.field-0-is (c.in-Ok-Same.ensures.left held files)) in
    less_same files m c.args.plan.now.script q taken c.requires left

pub returns-in-Ok-Gone-clause-makes : goal.returns-in-Ok-Gone-clause-makes
returns-in-Ok-Gone-clause-makes c = λ held files.
    let m = plan_machine held files c.args.plan.now in
    let q = c.args.name.now in
    let taken = c.args.items.now in
    let left : None ≡ less_items taken (get m q) =
    subst (λ (items : Items). None ≡ less_items taken (get (machine_over held files items) q)) c.image.ensures
    (subst (λ (r : Rest). left_of r (get (machine_over held files c.image.result.now) q) ≡ less_items taken (get (machine_over held files c.image.result.now) q)) c.in-Ok-Gone.field-0-is (c.in-Ok-Gone.ensures.left held files)) in
    if_ok c.drop_name.result (c.drop_name.ensures.makes held files)
    (λ made. same_touch files m (plan_machine held files c.drop_name.new.self) c.args.plan.now.script c.drop_name.new.self.script q (λ old. None) (less_items taken) left made)

pub returns-in-Ok-Left-clause-makes : goal.returns-in-Ok-Left-clause-makes
returns-in-Ok-Left-clause-makes c = λ held files.
    let m = plan_machine held files c.args.plan.now in
    let q = c.args.name.now in
    let taken = c.args.items.now in
    let e = entry.Value c.in-Ok-Left.key (value.List c.in-Ok-Left.left) in
    let left : Some e ≡ less_items taken (get m q) =
    subst (λ (items : Items). Some e ≡ less_items taken (get (machine_over held files items) q)) c.image.ensures
    (subst (λ (r : Rest). left_of r (get (machine_over held files c.image.result.now) q) ≡ less_items taken (get (machine_over held files c.image.result.now) q)) c.in-Ok-Left.field-0-is (c.in-Ok-Left.ensures.left held files)) in
    let named = (subst (λ (r : Rest). MayBeLeftAt q r) c.in-Ok-Left.field-0-is c.in-Ok-Left.ensures.right).0 in
    if_ok c.put_entry.result (c.put_entry.ensures.makes held files)
    (λ made. less_put files m (plan_machine held files c.put_entry.new.plan) c.args.plan.now.script c.put_entry.new.plan.script q e (less_items taken) named left made)
