-- Where it is copied.
use Rattle.std.proofs.Common.{true, false, List, ap, subst, ◌∙◌}
use Rattle.mi_base.specs.declared.entry.Entry.{Entry}
use Rattle.mi_base.specs.Machine.{file_at}
use Rattle.mi_changes.specs.Touches.{Touch}
use Rattle.mi_script.specs.Spelled.{is_file_name}
use Rattle.mi_steps.specs.Follows.{Follows}
use Rattle.mi_steps.specs.Makes.{plan_machine}
use Rattle.mi_steps.proofs.FollowLemmas.{started}
use Rattle.mi_records.proofs.KeyLemmas.{if_ok}
use Rattle.mi_files.proofs.CopyLemmas.{named_file, judged, copied, copies_none}
use Rattle.mi_files.proofs.duplicate.copy_file.Goals as goal

pub copy_with_folders-requires-clause-from : goal.copy_with_folders-requires-clause-from
copy_with_folders-requires-clause-from c = ap is_file_name c.in_ok-from.ensures ∙ named_file c.args.original.now

pub copy_with_folders-requires-clause-other : goal.copy_with_folders-requires-clause-other
copy_with_folders-requires-clause-other c = c.in_ok-is_copied.ensures.other c.if-branch.true

pub returns-then-branch-clause-makes : goal.returns-then-branch-clause-makes
returns-then-branch-clause-makes c = λ held files w now there.
    let path = c.args.path.now in
    let original = c.args.original.now in
    let from = c.in_ok-from.from in
    if_ok c.copy_with_folders.result (c.copy_with_folders.ensures.makes held files there)
    (copied held files c.args.plan.now path original from c.image.result.now c.image.ensures c.in_ok-from.ensures c.copy_with_folders.new.plan w c.args.moment now
    (judged held files c.args.plan.now path original from c.image.result.now c.image.ensures c.in_ok-from.ensures c.in_ok-is_copied.field-0 true (c.in_ok-is_copied.ensures.copied held files) there c.if-branch.true))

pub returns-clause-makes : goal.returns-clause-makes
returns-clause-makes c = λ held files w now there.
    let path = c.args.path.now in
    let original = c.args.original.now in
    let m = plan_machine held files c.args.plan.now in
    subst (λ (ts : List (Touch Entry)). Follows files m m c.args.plan.now.script c.args.plan.now.script ts)
    (copies_none w path original (file_at m original)
    (judged held files c.args.plan.now path original c.in_ok-from.from c.image.result.now c.image.ensures c.in_ok-from.ensures c.in_ok-is_copied.field-0 false (c.in_ok-is_copied.ensures.copied held files) there c.if-branch.false))
    (started files m c.args.plan.now.script)
