-- The row at the place, by its key.
use Rattle.std.proofs.Common.{◌+◌, List, refl, sym, subst, ◌∙◌}
use Rattle.mi_schema.specs.declared.typed_rows.CreateFolderRow.{CreateFolderRow}
use Rattle.mi_schema.specs.RowsOf.{behind}
use Rattle.mi_records.specs.Order.{Place, AreOrdered}
use Rattle.mi_records.proofs.OrderLemmas.{ordered_with}
use Rattle.mi_files.specs.Folders.{key_of}
use Rattle.mi_files.proofs.KeyedLemmas.{row_behind, key_at, got}
use Rattle.mi_files.proofs.order.put.Goals as goal

pub returns-in_ok-insert : goal.returns-in_ok-insert
returns-in_ok-insert c = λ are.
    let rows = c.args.rows.now.entries in
    let keys = c.args.keys.now in
    let there = sym c.in-Some.ensures.entry in
    subst (λ (es : List (Place CreateFolderRow)). AreOrdered key_of (behind rows) c.args.place es) (sym c.in_ok-insert.ensures.entries)
    (ordered_with key_of (behind rows) c.args.place c.args.ordered.now.entries c.as_str.result (c.args.place + 1) c.in-Some.row
    (row_behind rows keys c.args.place c.requires.keys (c.in-Some.field-0-0.now, c.in-Some.row.now) there)
    (c.as_str.ensures ∙ c.index-keys-place.is ∙ got keys c.args.place (key_of c.in-Some.row.now) _ (key_at rows keys c.args.place c.requires.keys (c.in-Some.field-0-0.now, c.in-Some.row.now) there))
    refl are)
