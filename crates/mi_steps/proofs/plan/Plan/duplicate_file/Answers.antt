use Rattle.mi_image.specs.Items.{machine_over}
use Rattle.mi_image.specs.Overlays.{present_items}
use Rattle.mi_steps.specs.Makes.{plan_machine}
use Rattle.mi_steps.proofs.FileLemmas.{file_stands, duplicate_made}
use Rattle.mi_steps.proofs.plan.Plan.duplicate_file.Goals as goal

pub returns-clause-makes : goal.returns-clause-makes
returns-clause-makes c = λ held files there.
    duplicate_made files (plan_machine held files c.args.self.now) (machine_over held files (present_items c.put_duplicate.new.overlay)) c.args.self.now.script c.push_duplicate.new.script c.in_ok-name.name c.args.head.now c.args.from.now
    (file_stands held files (present_items c.args.self.now.overlay) c.args.from.now c.args.head.now.length there c.requires.from)
    c.in_ok-name.ensures c.in_ok-push_duplicate.ensures.ok (c.in_ok-put_duplicate.ensures.machine held files)
