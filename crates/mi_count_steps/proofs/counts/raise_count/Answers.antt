use Rattle.std.proofs.Common.{◌≡◌, subst}
use Rattle.std.specs.Prelude.{◌+◌, min}
use Rattle.std.specs.FinMap.{get}
use Rattle.mi_image.specs.Items.{Items, machine_over}
use Rattle.mi_model.specs.SharedCounts.{count_name, count_in}
use Rattle.mi_steps.specs.Makes.{plan_machine}
use Rattle.mi_records.proofs.KeyLemmas.{if_ok}
use Rattle.mi_count_steps.proofs.CountLemmas.{count_raised}
use Rattle.mi_count_steps.proofs.counts.raise_count.Goals as goal

pub returns-in-Ok-clause-makes : goal.returns-in-Ok-clause-makes
returns-in-Ok-clause-makes c = λ held files.
    let path = c.args.path.now in
    let m = plan_machine held files c.args.plan.now in
    let one : c.in-Ok.number ≡ min (count_in (get m (count_name path)) + 1) 4294967295 =
    subst (λ (items : Items). c.in-Ok.number ≡ min (count_in (get (machine_over held files items) (count_name path)) + 1) 4294967295) c.image.ensures (c.in-Ok.ensures held files) in
    if_ok c.put_count.result (c.put_count.ensures.makes held files) (count_raised files m (plan_machine held files c.put_count.new.plan) c.args.plan.now.script c.put_count.new.plan.script path c.in-Ok.number one)
