-- Where nothing stands the entry is put, and else nothing is done.
use Rattle.std.proofs.Common.{ap, sym, ◌∙◌}
use Rattle.std.specs.Prelude.{is_none}
use Rattle.std.specs.FinMap.{get}
use Rattle.mi_base.specs.Spelling.{name_of}
use Rattle.mi_image.specs.Items.{Items}
use Rattle.mi_image.specs.Overlays.{present_items}
use Rattle.mi_steps.specs.Makes.{plan_machine}
use Rattle.mi_steps.proofs.StepLemmas.{no_file_name}
use Rattle.mi_records.proofs.KeyLemmas.{put_new, put_there}
use Rattle.mi_files.proofs.parents.put_missing.Goals as goal

pub returns-in-Ok-clause-makes : goal.returns-in-Ok-clause-makes
returns-in-Ok-clause-makes c = λ held files.
    put_new held files (present_items c.args.plan.now.overlay) (plan_machine held files c.put.new.self) c.args.plan.now.script c.put.new.self.script (name_of c.args.entry) c.args.entry
    (ap (λ (items : Items). is_none (get items (name_of c.args.entry))) (sym c.image.ensures) ∙ sym c.in-Ok-true.ensures ∙ c.in-Ok-true.field-0-test)
    (c.in-Ok.ensures.makes held files)

pub returns-in-Ok-false-clause-makes : goal.returns-in-Ok-false-clause-makes
returns-in-Ok-false-clause-makes c = λ held files.
    put_there held files (present_items c.args.plan.now.overlay) c.args.plan.now.script (name_of c.args.entry) c.args.entry (no_file_name c.args.entry c.requires.plain)
    (ap (λ (items : Items). is_none (get items (name_of c.args.entry))) (sym c.image.ensures) ∙ sym c.in-Ok-false.ensures ∙ c.in-Ok-false.field-0-test)
