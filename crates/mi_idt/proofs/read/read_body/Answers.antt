use Rattle.std.proofs.Common.{◌≡◌, ◌∙◌, sym, ap, List, [], map, None, option_map, subst}
use Rattle.std.specs.List.{All}
use Rattle.mi_text.specs.declared.answers.IdtFault.TheVariants.{TwoKeys}
use Rattle.mi_idt.specs.declared.table.Column.{Column}
use Rattle.mi_idt.specs.declared.table.Row.{Row}
use Rattle.mi_idt.specs.Means.{column_value, AreLaid}
use Rattle.mi_idt.specs.RowKey.{row_key, IsSpelledRow}
use Rattle.mi_idt.specs.Rows.{rows_fault}
use Rattle.mi_idt.specs.Texts.{repeat_of}
use Rattle.mi_idt.proofs.Faults.{or-past}
use Rattle.mi_idt.proofs.Basics.{shown}
use Rattle.mi_idt.proofs.ReadLemmas.{body_repeat, rows_spelled}
use Rattle.mi_idt.proofs.read.read_body.Goals as goal

pub first_repeat-requires-clause-spelled : goal.first_repeat-requires-clause-spelled
first_repeat-requires-clause-spelled c =
    let none = subst (λ (cs : List Column). rows_fault c.args.head.page (map column_value cs) 1 (shown c.args.lines.now) ≡ None) c.deref.ensures.value c.in_ok-body.ensures.0 in
    let all = rows_spelled c.args.head.page c.args.columns.items c.in_ok-body.body.rows.items (shown c.args.lines.now) c.in_ok-body.ensures.1.0 none in
    subst (λ (cs : List Column). All (IsSpelledRow cs) c.deref-4.result.now) (sym c.deref-2.ensures.value) (subst (All (IsSpelledRow c.args.columns.items)) (sym c.deref-4.ensures.value) all)

pub first_repeat-requires-clause-laid : goal.first_repeat-requires-clause-laid
first_repeat-requires-clause-laid c = subst (λ (rows : List Row). AreLaid rows c.in_ok-body.body.fields.items) (sym c.deref-4.ensures.value) c.in_ok-body.ensures.1.1

pub returns-in-Some : goal.returns-in-Some
returns-in-Some c =
    let none = subst (λ (cs : List Column). rows_fault c.args.head.page (map column_value cs) 1 (shown c.args.lines.now) ≡ None) c.deref.ensures.value c.in_ok-body.ensures.0 in
    let repeat = sym (λ i. repeat_of [] 1 (map (row_key (c.deref-2.ensures.value i) (c.deref-3.ensures.value i)) (c.deref-4.ensures.value i))) ∙ sym c.in_ok-row.ensures ∙ c.in-Some.is in
    or-past _ _ none ∙ body_repeat c.args.head.page c.args.columns.items c.args.head.keys.items c.in_ok-body.body.rows.items (shown c.args.lines.now) c.in_ok-body.ensures.1.0 none ∙ ap (option_map TwoKeys) repeat

pub returns : goal.returns
returns c =
    let none = subst (λ (cs : List Column). rows_fault c.args.head.page (map column_value cs) 1 (shown c.args.lines.now) ≡ None) c.deref.ensures.value c.in_ok-body.ensures.0 in
    let repeat = sym (λ i. repeat_of [] 1 (map (row_key (c.deref-2.ensures.value i) (c.deref-3.ensures.value i)) (c.deref-4.ensures.value i))) ∙ sym c.in_ok-row.ensures ∙ c.in-None.is in (
      or-past _ _ none ∙ body_repeat c.args.head.page c.args.columns.items c.args.head.keys.items c.in_ok-body.body.rows.items (shown c.args.lines.now) c.in_ok-body.ensures.1.0 none ∙ ap (option_map TwoKeys) repeat,
      ((λ i. record { name = c.args.head.name.now; page = c.args.head.page; columns = map column_value c.args.columns.items; keys = c.args.head.keys.items; rows = c.in_ok-body.ensures.1.0 i }), c.in_ok-body.ensures.1.1),
    )
