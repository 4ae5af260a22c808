-- The row at the place, by its key.
use Rattle.std.proofs.Common.{◌+◌, List, refl, sym, subst, ◌∙◌}
use Rattle.mi_schema.specs.RowsOf.{behind}
use Rattle.mi_records.specs.Order.{Place, AreOrdered, AreRowsOf}
use Rattle.mi_records.proofs.OrderLemmas.{ordered_with, ordered_none, key_at, row_at, no_row_at, insert_each, contains_at}
use Rattle.mi_records.proofs.order.put.Goals as goal

pub returns-in_ok-insert-clause-order : goal.returns-in_ok-insert-clause-order
returns-in_ok-insert-clause-order g c = λ key keys are.
    let rows = c.args.rows.now.entries in
    let there = sym c.in-Some.ensures.entry in
    subst (λ (es : List (Place g.row.R.Denot)). AreOrdered key (behind rows) c.args.place es) (sym c.in_ok-insert.ensures.entries)
    (ordered_with key (behind rows) c.args.place c.args.ordered.now.entries c.as_str.result (c.args.place + 1) c.in-Some.row
    (row_at rows c.args.place (c.in-Some.key.now, c.in-Some.row.now) there) (c.as_str.ensures ∙ key_at key rows c.args.place (c.in-Some.key.now, c.in-Some.row.now) keys there) refl are)

pub returns-in_default-clause-order : goal.returns-in_default-clause-order
returns-in_default-clause-order g c = λ key keys are.
    let rows = c.args.rows.now.entries in
    ordered_none key (behind rows) c.args.place c.args.ordered.now.entries (no_row_at rows c.args.place (sym c.in_default.ensures.entry)) are

pub returns-in_ok-insert-clause-each : goal.returns-in_ok-insert-clause-each
returns-in_ok-insert-clause-each g c = λ are.
    let rows = c.args.rows.now.entries in
    subst (λ (es : List (Place g.row.R.Denot)). AreRowsOf rows es) (sym c.in_ok-insert.ensures.entries)
    (insert_each rows c.args.ordered.now.entries c.as_str.result (c.args.place + 1, c.in-Some.row) (contains_at (behind rows) c.args.place c.in-Some.row.now (row_at rows c.args.place (c.in-Some.key.now, c.in-Some.row.now) (sym c.in-Some.ensures.entry))) are)
