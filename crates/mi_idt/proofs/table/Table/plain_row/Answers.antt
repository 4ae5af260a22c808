use Rattle.std.proofs.Common.{◌≡◌, ◌∙◌, ap, sym, subst, map, List, ℕ, get_or}
use Rattle.std.specs.List.{All}
use Rattle.mi_idt.specs.declared.table.Column.{Column}
use Rattle.mi_idt.specs.declared.table.Row.{Row}
use Rattle.mi_idt.specs.Fields.{fields_of, unescaped}
use Rattle.mi_idt.specs.Means.{raw_row, AreLaid}
use Rattle.mi_idt.specs.RowKey.{IsSpelledRow}
use Rattle.mi_idt.proofs.Spelled.{rows_spelled, line_plain, fields_plain, shows_row}
use Rattle.mi_idt.proofs.table.Table.plain_row.Goals as goal

pub row_fields-requires-clause-spelled : goal.row_fields-requires-clause-spelled
row_fields-requires-clause-spelled c = subst (λ (cs : List Column). All (IsSpelledRow cs) c.deref-then-is_plain_line.result.now) (sym c.deref.ensures.value) (subst (All (IsSpelledRow c.args.self.now.columns.items)) (sym c.deref-then-is_plain_line.ensures.value) (rows_spelled c.requires.spelled.0 c.args.self.now c.requires.spelled.1))

pub row_fields-requires-clause-laid : goal.row_fields-requires-clause-laid
row_fields-requires-clause-laid c = subst (λ (rows : List Row). AreLaid rows c.args.self.now.fields.items) (sym c.deref-then-is_plain_line.ensures.value) c.requires.spelled.1.laid

pub returns-then-is_plain_line-clause-texts : goal.returns-then-is_plain_line-clause-texts
returns-then-is_plain_line-clause-texts c =
    let rows : List Row = c.args.self.now.rows.items in
    let row : Row = c.index.result.now in
    let line : List ℕ = c.as_bytes.result.now in
    let stands : map (map unescaped) (fields_of line) ≡ fields_of line = fields_plain line (line_plain line (sym c.is_plain_line.ensures ∙ c.if-is_plain_line.true)) in
    let here : raw_row (get_or rows c.args.row row) ≡ fields_of line = ap raw_row (sym c.index.ensures) ∙ ap fields_of (sym c.as_bytes.ensures.value) in
    let read = c.row_fields.ensures row ∙ ap (λ (rows : List Row). raw_row (get_or rows c.args.row row)) c.deref-then-is_plain_line.ensures.value in
    shows_row c.requires.spelled.0 c.args.self.now c.requires.spelled.1 c.args.row row _ c.requires.row_in_range (read ∙ here ∙ sym stands ∙ ap (map (map unescaped)) (sym here))
