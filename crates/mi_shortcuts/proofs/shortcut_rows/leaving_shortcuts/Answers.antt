-- The rows in key order, and those that are taken.
use Rattle.std.proofs.Common.{map, ap, ◌∙◌}
use Rattle.std.specs.Prelude.{filter}
use Rattle.mi_schema.specs.declared.package.Package.{Package}
use Rattle.mi_schema.specs.declared.typed_rows.ShortcutRow.{ShortcutRow}
use Rattle.mi_schema.specs.RowsOf.{rows_in}
use Rattle.mi_schema.specs.TableRows.{in_key_order}
use Rattle.mi_records.specs.Order.{as_numbered}
use Rattle.mi_shortcuts.proofs.ShortcutLemmas.{leaving_are}
use Rattle.mi_shortcuts.proofs.shortcut_rows.leaving_shortcuts.Goals as goal

pub returns : goal.returns
returns g c = λ w asked.
    let choices = g.S.Sees.choices c.args.seen.now in
    ap (map as_numbered) (c.in_ok-taken.ensures ∙ ap (filter (λ r. choices.leaving r.1.now.component)) c.as_slice.ensures.value)
    ∙ leaving_are (g.S.Env.lookups c.args.seen.now) choices (g.S.Sees.rows c.args.seen.now) w asked c.in_ok-rows.rows.items
    (c.in_ok-rows.ensures.rows ∙ ap (λ (p : Package). in_key_order (λ (r : ShortcutRow). r.shortcut) (rows_in p).shortcut) c.package.ensures)
