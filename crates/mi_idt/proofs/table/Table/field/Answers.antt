use Rattle.std.proofs.Common.{◌≡◌, ◌∙◌, ◌<◌, sym, ap, arith, subst, List, ℕ, length, get_or, IfOk, IsOk, Some, option_map, Bor}
use Rattle.std.specs.Cow.{cow_str_bytes}
use Rattle.std.specs.List.{All}
use Rattle.std.proofs.lemmas.List.{length-map}
use Rattle.mi_idt.specs.declared.table.Column.{Column}
use Rattle.mi_idt.specs.declared.table.Row.{Row}
use Rattle.mi_idt.specs.Raw.{text_of, field_at}
use Rattle.mi_idt.specs.Means.{raw, raw_row, AreLaid, cell_at, meaning}
use Rattle.mi_idt.specs.RowKey.{IsSpelledRow}
use Rattle.mi_idt.proofs.LayLaws.{row_wide, no_row}
use Rattle.mi_idt.proofs.Spelled.{rows_spelled, field_is, shows_at, shows_so}
use Rattle.mi_idt.proofs.table.Table.field.Goals as goal

pub row_fields-fields-requires-clause-spelled : goal.row_fields-fields-requires-clause-spelled
row_fields-fields-requires-clause-spelled c = subst (λ (cs : List Column). All (IsSpelledRow cs) c.deref-2.result.now) (sym c.deref.ensures.value) (subst (All (IsSpelledRow c.args.self.now.columns.items)) (sym c.deref-2.ensures.value) (rows_spelled c.requires.spelled.0 c.args.self.now c.requires.spelled.1))

pub row_fields-fields-requires-clause-laid : goal.row_fields-fields-requires-clause-laid
row_fields-fields-requires-clause-laid c = subst (λ (rows : List Row). AreLaid rows c.args.self.now.fields.items) (sym c.deref-2.ensures.value) c.requires.spelled.1.laid

pub bounds-fields-column : goal.bounds-fields-column
bounds-fields-column c =
    let read = c.row_fields-fields.ensures no_row ∙ ap (λ (rows : List Row). raw_row (get_or rows c.args.row no_row)) c.deref-2.ensures.value in
    let wide = row_wide c.args.self.now.columns.items (get_or c.args.self.now.rows.items c.args.row no_row) (rows_spelled c.requires.spelled.0 c.args.self.now c.requires.spelled.1 c.args.row no_row c.requires.row_in_range) in
    omega (arith, c.requires.column_in_range, ap length read, wide, length-map c.row_fields-fields.result.now (λ (b : Bor (List ℕ)). b.now))

pub returns-clause-text : goal.returns-clause-text
returns-clause-text c =
    let read = c.row_fields-fields.ensures no_row ∙ ap (λ (rows : List Row). raw_row (get_or rows c.args.row no_row)) c.deref-2.ensures.value in
    let wide = row_wide c.args.self.now.columns.items (get_or c.args.self.now.rows.items c.args.row no_row) (rows_spelled c.requires.spelled.0 c.args.self.now c.requires.spelled.1 c.args.row no_row c.requires.row_in_range) in
    let within : c.args.column < length c.row_fields-fields.result.now = omega (arith, c.requires.column_in_range, ap length read, wide, length-map c.row_fields-fields.result.now (λ (b : Bor (List ℕ)). b.now)) in
    let is = field_is c.args.self.now c.args.row c.args.column no_row c.row_fields-fields.result.now _ read c.requires.row_in_range within in
    subst (λ (f : List ℕ). IfOk c.text_of.result (λ text. option_map cow_str_bytes text ≡ text_of f)) is c.text_of.ensures.text

pub returns-clause-plain : goal.returns-clause-plain
returns-clause-plain c =
    let read = c.row_fields-fields.ensures no_row ∙ ap (λ (rows : List Row). raw_row (get_or rows c.args.row no_row)) c.deref-2.ensures.value in
    let wide = row_wide c.args.self.now.columns.items (get_or c.args.self.now.rows.items c.args.row no_row) (rows_spelled c.requires.spelled.0 c.args.self.now c.requires.spelled.1 c.args.row no_row c.requires.row_in_range) in
    let within : c.args.column < length c.row_fields-fields.result.now = omega (arith, c.requires.column_in_range, ap length read, wide, length-map c.row_fields-fields.result.now (λ (b : Bor (List ℕ)). b.now)) in
    let is = field_is c.args.self.now c.args.row c.args.column no_row c.row_fields-fields.result.now _ read c.requires.row_in_range within in
    subst (λ (f : List ℕ). text_of f ≡ Some f → IsOk c.text_of.result) is c.text_of.ensures.plain

pub returns-clause-cell : goal.returns-clause-cell
returns-clause-cell c =
    let read = c.row_fields-fields.ensures no_row ∙ ap (λ (rows : List Row). raw_row (get_or rows c.args.row no_row)) c.deref-2.ensures.value in
    let wide = row_wide c.args.self.now.columns.items (get_or c.args.self.now.rows.items c.args.row no_row) (rows_spelled c.requires.spelled.0 c.args.self.now c.requires.spelled.1 c.args.row no_row c.requires.row_in_range) in
    let within : c.args.column < length c.row_fields-fields.result.now = omega (arith, c.requires.column_in_range, ap length read, wide, length-map c.row_fields-fields.result.now (λ (b : Bor (List ℕ)). b.now)) in
    let is = field_is c.args.self.now c.args.row c.args.column no_row c.row_fields-fields.result.now _ read c.requires.row_in_range within in
    let text = subst (λ (f : List ℕ). IfOk c.text_of.result (λ text. option_map cow_str_bytes text ≡ text_of f)) is c.text_of.ensures.text in
    let shows = shows_at c.requires.spelled.0 c.args.self.now c.requires.spelled.1 c.args.row c.args.column c.requires.row_in_range c.requires.column_in_range in
    shows_so cow_str_bytes c.text_of.result (text_of (field_at (raw c.args.self.now) c.args.row c.args.column)) (cell_at (meaning c.args.self.now) c.args.row c.args.column) text shows
