-- With the bytes of the file that is there.
use Rattle.std.proofs.Common.{◌≡◌, List, ap, Option, Some, sym, subst, ◌∙◌}
use Rattle.std.specs.Prelude.{option_map, IfSome}
use Rattle.std.specs.FinMap.{get}
use Rattle.mi_base.specs.declared.entry.FileHead.{FileHead}
use Rattle.mi_base.specs.declared.entry.Entry.{Entry}
use Rattle.mi_base.specs.Machine.{as_file}
use Rattle.mi_base.specs.Names.{file_name}
use Rattle.mi_base.specs.Spelling.{head_of}
use Rattle.mi_changes.specs.Touches.{Touch}
use Rattle.mi_image.specs.Items.{Items, machine_over, AreThere}
use Rattle.mi_steps.specs.Makes.{Makes, plan_machine}
use Rattle.mi_records.proofs.KeyLemmas.{if_ok}
use Rattle.mi_files.specs.Copies.{copied_head}
use Rattle.mi_files.proofs.CopyLemmas.{copy_made}
use Rattle.mi_files.proofs.duplicate.write_copy.Goals as goal

pub duplicate_file-done-requires-clause-other : goal.duplicate_file-done-requires-clause-other
duplicate_file-done-requires-clause-other c = λ same.
    let shown : c.in-Ok-Some.head.shown ≡ c.args.path.now = subst (λ (o : Option FileHead). IfSome o (λ h. h.shown ≡ c.args.path.now)) c.in-Ok-Some.field-0-is c.in-Ok-Some.ensures.shown in
    c.requires.other (same ∙ ap file_name shown)

pub returns-in-Ok-Some-clause-makes : goal.returns-in-Ok-Some-clause-makes
returns-in-Ok-Some-clause-makes c = λ held files there.
    let m = plan_machine held files c.args.plan.now in
    let told : Some c.in-Ok-Some.head ≡ option_map (copied_head c.args.path.now c.args.moment) (option_map head_of (as_file (get m c.args.from.now))) =
    sym c.in-Ok-Some.field-0-is
    ∙ subst (λ (items : Items). AreThere held files items → c.in-Ok-Some.field-0 ≡ option_map (copied_head c.args.path.now c.args.moment) (option_map head_of (as_file (get (machine_over held files items) c.args.from.now)))) c.image.ensures (c.in-Ok-Some.ensures.file held files) there in
    if_ok c.duplicate_file-done.result (c.duplicate_file-done.ensures.makes held files there)
    (subst (λ (ts : List (Touch Entry)). Makes held files c.args.plan.now c.duplicate_file-done.new.self ts) (copy_made m c.args.from.now c.args.path.now c.args.moment c.in-Ok-Some.head told))
