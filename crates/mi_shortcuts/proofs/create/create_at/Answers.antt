-- The entry of the row is put.
use Rattle.mi_base.specs.declared.entry.Entry.{Entry}
use Rattle.mi_steps.specs.Makes.{plan_machine}
use Rattle.mi_records.specs.Meaning.{numbered}
use Rattle.mi_records.proofs.ClientLemmas.{row_same}
use Rattle.mi_row_steps.proofs.RowLemmas.{row_untold}
use Rattle.mi_shortcuts.specs.Entries.{entry_of_row, created_effect, created_at}
use Rattle.mi_shortcuts.proofs.ShortcutLemmas.{then_ok, then_err}
use Rattle.mi_shortcuts.proofs.create.create_at.Goals as goal

pub returns-in-Ok-clause-row : goal.returns-in-Ok-clause-row
returns-in-Ok-clause-row g c = λ held files w asked.
    let r = numbered c.args.number c.args.row.now in
    let path = c.args.path.now in
    row_same held files c.args.plan.now c.put_shortcut.new.plan (created_effect c.args.number path c.in-Ok.entry) (created_at w r path) c.put_shortcut.result
    (then_ok (λ e. created_effect c.args.number path e (plan_machine held files c.args.plan.now)) (entry_of_row w r path) c.in-Ok.entry (c.in-Ok.ensures.entry w asked)) (c.put_shortcut.ensures.row held files)

pub returns-in-Err-clause-row : goal.returns-in-Err-clause-row
returns-in-Err-clause-row g c = λ held files w asked.
    let r = numbered c.args.number c.args.row.now in
    let path = c.args.path.now in
    row_untold held files c.args.plan.now c.args.plan.now (Unit {0}) (λ (e : Entry). e) (entry_of_row w r path) (created_at w r path) c.in-Err.error
    (then_err (λ e. created_effect c.args.number path e (plan_machine held files c.args.plan.now)) (entry_of_row w r path)) (c.in-Err.ensures.entry w asked)
