-- The rows in key order, and those that are taken.
use Rattle.std.proofs.Common.{map, ap, ◌∙◌}
use Rattle.std.specs.Prelude.{filter}
use Rattle.mi_schema.specs.declared.package.Package.{Package}
use Rattle.mi_schema.specs.declared.typed_rows.ShortcutRow.{ShortcutRow}
use Rattle.mi_schema.specs.RowsOf.{rows_in}
use Rattle.mi_schema.specs.TableRows.{in_key_order}
use Rattle.mi_records.specs.Order.{as_numbered}
use Rattle.mi_records.proofs.PhaseLemmas.{all_picked}
use Rattle.mi_shortcut_rows.specs.Entries.{HasNumbers}
use Rattle.mi_shortcuts.proofs.ShortcutLemmas.{coming_are}
use Rattle.mi_shortcuts.proofs.shortcut_rows.coming_shortcuts.Goals as goal

pub returns-clause-rows : goal.returns-clause-rows
returns-clause-rows g c = λ w asked.
    let choices = g.S.Sees.choices c.args.seen.now in
    ap (map as_numbered) (c.in_ok-taken.ensures ∙ ap (filter (λ r. choices.coming r.1.now.component)) c.as_slice.ensures.value)
    ∙ coming_are (g.S.Env.lookups c.args.seen.now) choices (g.S.Sees.rows c.args.seen.now) w asked c.in_ok-rows.rows.items
    (c.in_ok-rows.ensures.rows ∙ ap (λ (p : Package). in_key_order (λ (r : ShortcutRow). r.shortcut) (rows_in p).shortcut) c.package.ensures)

pub returns-clause-numbers : goal.returns-clause-numbers
returns-clause-numbers g c =
    let choices = g.S.Sees.choices c.args.seen.now in
    all_picked (λ r. HasNumbers r.1.now) (λ r. choices.coming r.1.now.component) c.in_ok-rows.rows.items c.in_ok-taken.taken.items (c.in_ok-taken.ensures ∙ ap (filter (λ r. choices.coming r.1.now.component)) c.as_slice.ensures.value) c.in_ok-rows.ensures.numbers
