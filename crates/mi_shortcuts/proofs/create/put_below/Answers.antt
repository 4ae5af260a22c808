-- The folders, then the shortcut.
use Rattle.std.proofs.Common.{[], ◌∷◌, ap, subst}
use Rattle.mi_text.specs.Maps.{Name}
use Rattle.mi_base.specs.Names.{shortcut_name}
use Rattle.mi_model.specs.Parents.{parents_of_path}
use Rattle.mi_steps.specs.Follows.{Follows, put_touch}
use Rattle.mi_steps.specs.Makes.{is_file, plan_machine}
use Rattle.mi_steps.proofs.FollowLemmas.{joined}
use Rattle.mi_records.proofs.KeyLemmas.{if_ok}
use Rattle.mi_shortcuts.proofs.ShortcutLemmas.{entry_named}
use Rattle.mi_shortcuts.proofs.create.put_below.Goals as goal

pub put_entry-requires-clause-plain : goal.put_entry-requires-clause-plain
put_entry-requires-clause-plain c = ap is_file c.requires.at.is

pub returns-in-Ok-clause-makes : goal.returns-in-Ok-clause-makes
returns-in-Ok-clause-makes c = λ held files.
    let path = c.args.path.now in
    let m = plan_machine held files c.args.plan.now in
    let n = plan_machine held files c.make_parents.new.plan in
    let o = plan_machine held files c.put_entry.new.plan in
    if_ok c.put_entry.result (c.put_entry.ensures.makes held files) (λ one.
    joined files m n o c.args.plan.now.script c.make_parents.new.plan.script c.put_entry.new.plan.script (parents_of_path path) (put_touch (shortcut_name path) c.args.entry ∷ []) (c.in-Ok.ensures.makes held files)
    (subst (λ (q : Name). Follows files n o c.make_parents.new.plan.script c.put_entry.new.plan.script (put_touch q c.args.entry ∷ [])) (entry_named path c.args.entry c.requires.at) one))
