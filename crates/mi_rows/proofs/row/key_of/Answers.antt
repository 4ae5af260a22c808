use Rattle.std.proofs.Common.{◌≡◌, ◌∙◌, List, ℕ, Option, option_map, string_bytes, IfOk, map, refl, sym, ap, subst, arith}
use Rattle.std.specs.Cow.{cow_str_bytes}
use Rattle.std.specs.List.{slice_index_or}
use Rattle.mi_idt.specs.Cells.{Nothing}
use Rattle.mi_idt.specs.Means.{Shows, text_shown}
use Rattle.mi_rows.specs.Reads.{raw_row}
use Rattle.std.proofs.lemmas.List.{length-map}
use Rattle.mi_rows.specs.Columns.{column_as}
use Rattle.mi_rows.proofs.FitLemmas.{row_fits, columns_there}
use Rattle.mi_rows.proofs.FieldLemmas.{key_field, some_shown}
use Rattle.mi_rows.proofs.row.key_of.Goals as goal

pub field-requires-clause-column_in_range : goal.field-requires-clause-column_in_range
field-requires-clause-column_in_range c =
    let many = columns_there (map column_as c.args.layout.now.columns.now) c.args.table.now c.requires.columns in
    omega (arith, many, length-map c.args.layout.now.columns.now column_as)

pub returns-in-Some : goal.returns-in-Some
returns-in-Some c =
    let listed = c.args.layout.now.columns.now in
    let cells = raw_row c.args.table.now c.args.number in
    let fit = row_fits (map column_as listed) c.args.table.now c.requires.spelled c.requires.columns c.args.number (omega (arith, c.requires.in_range, c.args.table.now.rows.ok)) in
    let is = ap (option_map cow_str_bytes) c.in-Some.is in
    let some = some_shown (cow_str_bytes c.in-Some.text) _ (sym is ∙ c.in_ok-text.ensures.text) ∙ sym is in
    let shown = ap text_shown c.as_str.ensures.value ∙ some in
    let shows = subst (λ (o : Option (List ℕ)). Shows o (slice_index_or cells 0 Nothing)) (sym shown) c.in_ok-text.ensures.cell in
    subst (λ (text : List ℕ). IfOk c.key_text.result (λ key. string_bytes key ≡ text)) (sym (key_field listed _ cells (record { kind = _; text = c.as_str.result; start = 0 }) c.in-len1-up.len_at_least fit refl shows)) c.key_text.ensures
