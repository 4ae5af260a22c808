-- A key that is there is no step.
use Rattle.std.proofs.Common.{ap, sym, ◌∙◌}
use Rattle.std.specs.Prelude.{is_some}
use Rattle.mi_base.specs.Limits.{is_key}
use Rattle.mi_base.specs.Machine.{key_at}
use Rattle.mi_image.specs.Items.{Items, machine_over}
use Rattle.mi_steps.specs.Makes.{plan_machine}
use Rattle.mi_records.proofs.KeyLemmas.{key_there, key_fits}
use Rattle.mi_records.proofs.keys.make_key.Goals as goal

pub returns-then-key-clause-makes : goal.returns-then-key-clause-makes
returns-then-key-clause-makes c = λ held files.
    key_there files (plan_machine held files c.args.plan.now) c.args.plan.now.script c.args.root c.args.key.now
    (ap (λ (items : Items). is_some (key_at (machine_over held files items) c.args.root c.args.key.now)) (sym c.image.ensures) ∙ sym (c.key.ensures held files) ∙ c.if-key.true)

pub put_missing-requires-clause-right : goal.put_missing-requires-clause-right
put_missing-requires-clause-right c = key_fits c.args.root c.in_ok-shown.shown c.requires.root (ap is_key c.in_ok-shown.ensures ∙ c.requires.key)
