-- The entry that is put is the one that was judged.
use Rattle.std.proofs.Common.{sym, ap, subst, ◌∙◌}
use Rattle.mi_base.specs.declared.entry.Entry.{Entry}
use Rattle.mi_base.specs.Limits.{fits}
use Rattle.mi_shortcut_rows.specs.Entries.{IsShortcutAt}
use Rattle.mi_shortcuts.proofs.ShortcutLemmas.{shortcut_large, created, created_not}
use Rattle.mi_shortcuts.proofs.create.put_shortcut.Goals as goal

pub sized-requires : goal.sized-requires
sized-requires c = shortcut_large c.args.path.now c.args.entry c.requires.file c.requires.at

pub put_below-requires-clause-right : goal.put_below-requires-clause-right
put_below-requires-clause-right c = ap fits c.in-Ok.ensures.is ∙ c.in-Ok.ensures.right

pub put_below-requires-clause-at : goal.put_below-requires-clause-at
put_below-requires-clause-at c = subst (λ (e : Entry). IsShortcutAt c.args.path.now e) (sym c.in-Ok.ensures.is) c.requires.at

pub returns-in-Ok-put_below-clause-row : goal.returns-in-Ok-put_below-clause-row
returns-in-Ok-put_below-clause-row c = λ held files. created held files c.args.plan.now c.put_below.new.plan c.args.number c.args.path.now c.args.entry c.in-Ok.entry c.in-Ok.ensures (c.in-Ok-put_below.ensures.makes held files)

pub returns-in-Err-clause-row : goal.returns-in-Err-clause-row
returns-in-Err-clause-row c = λ held files. created_not held files c.args.plan.now c.args.plan.now c.args.number c.args.path.now c.args.entry c.in-Err.error c.in-Err.ensures
