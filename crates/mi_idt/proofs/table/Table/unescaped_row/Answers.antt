use Rattle.std.proofs.Common.{◌∙◌, ap, sym, subst, map, List, get_or, string_bytes}
use Rattle.std.specs.List.{All}
use Rattle.mi_idt.specs.declared.table.Column.{Column}
use Rattle.mi_idt.specs.declared.table.Row.{Row}
use Rattle.mi_idt.specs.Fields.{unescaped}
use Rattle.mi_idt.specs.Means.{raw_row, AreLaid}
use Rattle.mi_idt.specs.RowKey.{IsSpelledRow}
use Rattle.mi_idt.proofs.LayLaws.{no_row}
use Rattle.mi_idt.proofs.Spelled.{rows_spelled, rows_shown}
use Rattle.mi_idt.proofs.table.Table.unescaped_row.Goals as goal

pub row_fields-requires-clause-spelled : goal.row_fields-requires-clause-spelled
row_fields-requires-clause-spelled c = subst (λ (cs : List Column). All (IsSpelledRow cs) c.deref-2.result.now) (sym c.deref.ensures.value) (subst (All (IsSpelledRow c.args.self.now.columns.items)) (sym c.deref-2.ensures.value) (rows_spelled c.requires.spelled.0 c.args.self.now c.requires.spelled.1))

pub row_fields-requires-clause-laid : goal.row_fields-requires-clause-laid
row_fields-requires-clause-laid c = subst (λ (rows : List Row). AreLaid rows c.args.self.now.fields.items) (sym c.deref-2.ensures.value) c.requires.spelled.1.laid

pub returns : goal.returns
returns c =
    let read = c.row_fields.ensures no_row ∙ ap (λ (rows : List Row). raw_row (get_or rows c.args.row no_row)) c.deref-2.ensures.value in
    rows_shown c.requires.spelled.0 c.args.self.now c.requires.spelled.1 c.args.row no_row c.requires.row_in_range (λ texts. map string_bytes texts.items) c.unescaped_texts.result _ c.unescaped_texts.ensures (ap (map (map unescaped)) read)
