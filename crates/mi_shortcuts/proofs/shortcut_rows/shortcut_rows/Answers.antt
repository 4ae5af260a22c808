-- The rows by their own keys; each is a row of the package.
use Rattle.mi_schema.specs.declared.typed_rows.ShortcutRow.{ShortcutRow}
use Rattle.mi_schema.specs.RowsOf.{rows_in}
use Rattle.mi_records.proofs.PhaseLemmas.{ok_roots}
use Rattle.mi_shortcut_rows.specs.Entries.{HasNumbers}
use Rattle.mi_shortcuts.proofs.ShortcutLemmas.{numbers_stand}
use Rattle.mi_shortcuts.proofs.shortcut_rows.shortcut_rows.Goals as goal

pub returns-clause-rows : goal.returns-clause-rows
unfolding rows_in
returns-clause-rows c = c.in_key_order.ensures.order (λ (r : ShortcutRow). r.shortcut) c.keys_stand.ensures.shortcut

pub returns-clause-numbers : goal.returns-clause-numbers
returns-clause-numbers c =
    let es = c.args.loaded.now.shortcut.entries in
    ok_roots HasNumbers c.in_key_order.result es (numbers_stand es c.values_stand.ensures.shortcut_hotkey c.values_stand.ensures.shortcut_icon_index c.values_stand.ensures.shortcut_show_cmd) c.in_key_order.ensures.each
