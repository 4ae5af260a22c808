use Rattle.std.proofs.Common.{[], ◌∷◌, ◌++◌, ap, ◌∙◌}
use Rattle.mi_text.specs.Maps.{Name}
use Rattle.mi_script.specs.declared.rec.Rec.TheVariants.{Copy}
use Rattle.mi_image.specs.Items.{machine_over}
use Rattle.mi_image.specs.Overlays.{present_items}
use Rattle.mi_steps.specs.Makes.{plan_machine}
use Rattle.mi_steps.proofs.FileLemmas.{copy_made}
use Rattle.mi_steps.proofs.plan.Plan.copy_file.Goals as goal

pub returns-clause-makes : goal.returns-clause-makes
returns-clause-makes c = λ held files.
    copy_made files (plan_machine held files c.args.self.now) (machine_over held files (present_items c.put_copy.new.overlay)) c.args.self.now.script c.push_copy.new.script c.in_ok-name.name c.args.head.now c.args.file.now c.args.path.now
    c.in_ok-name.ensures c.in_ok-push_copy.ensures.ok (c.in_ok-put_copy.ensures.machine held files)

pub returns-clause-adds : goal.returns-clause-adds
returns-clause-adds c = c.in_ok-push_copy.ensures.ok ∙ ap (λ (n : Name). c.args.self.now.script ++ Copy n c.args.head.now c.args.file.now c.args.path.now c.args.head.now.length ∷ []) c.in_ok-name.ensures
