use Rattle.std.proofs.Common.{◌≡◌, ◌∙◌, ◌+◌, length, map, sym, ap, arith}
use Rattle.std.proofs.lemmas.List.{length-map, take_rest}
use Rattle.mi_idt.specs.Fields.{fields_of}
use Rattle.mi_idt.specs.Means.{column_value}
use Rattle.mi_idt.specs.Rows.{fields_fault}
use Rattle.mi_idt.proofs.Basics.{shown}
use Rattle.mi_idt.proofs.LineLemmas.{behind, grown, line_fields, other_fields}
use Rattle.mi_idt.proofs.rows.read_row.Goals as goal

pub returns-then-len-start-clause-read : goal.returns-then-len-start-clause-read
returns-then-len-start-clause-read c =
    let more : length c.push_fields.new.fields.items ≡ length c.args.fields.now.items + length (fields_of c.in-Some.text.now) = grown _ _ _ c.in_ok-push_fields.ensures in
    other_fields c.args.page (map column_value c.args.columns.now) c.args.row c.args.line.now (sym c.in-Some.ensures.is)
    (λ same. c.if-len-start.true (omega (arith, same, ap (λ l. length (fields_of l)) c.in-Some.ensures.read, more, c.len.ensures, c.push_fields.new.fields.ok.0, c.len-start.ensures, c.args.fields.now.ok.0, length-map c.args.columns.now column_value)))

pub returns-in-Ok-clause-read : goal.returns-in-Ok-clause-read
returns-in-Ok-clause-read c =
    let more : length c.push_fields.new.fields.items ≡ length c.args.fields.now.items + length (fields_of c.in-Some.text.now) = grown _ _ _ c.in_ok-push_fields.ensures in
    let long : length (fields_of c.args.line.now) ≡ length (map column_value c.args.columns.now) = omega (arith, c.if-len-start.false, ap (λ l. length (fields_of l)) c.in-Some.ensures.read, more, c.len.ensures, c.push_fields.new.fields.ok.0, c.len-start.ensures, c.args.fields.now.ok.0, length-map c.args.columns.now column_value) in
    let added = ap shown (take_rest c.deref.result.now c.len-start.result) ∙ behind c.args.fields.now.items c.deref.result.now (fields_of c.in-Some.text.now) c.len-start.result (ap shown c.deref.ensures.value ∙ c.in_ok-push_fields.ensures) (c.len-start.ensures ∙ c.args.fields.now.ok.0) in
    (line_fields c.args.page (map column_value c.args.columns.now) c.args.row c.args.line.now _ (sym c.in-Some.ensures.is) long (c.in-Ok.ensures ∙ ap (fields_fault c.args.row 1 (map column_value c.args.columns.now)) (added ∙ ap fields_of c.in-Some.ensures.read)), c.in-Some.ensures.read)

pub returns-in-Err-clause-read : goal.returns-in-Err-clause-read
returns-in-Err-clause-read c =
    let more : length c.push_fields.new.fields.items ≡ length c.args.fields.now.items + length (fields_of c.in-Some.text.now) = grown _ _ _ c.in_ok-push_fields.ensures in
    let long : length (fields_of c.args.line.now) ≡ length (map column_value c.args.columns.now) = omega (arith, c.if-len-start.false, ap (λ l. length (fields_of l)) c.in-Some.ensures.read, more, c.len.ensures, c.push_fields.new.fields.ok.0, c.len-start.ensures, c.args.fields.now.ok.0, length-map c.args.columns.now column_value) in
    let added = ap shown (take_rest c.deref.result.now c.len-start.result) ∙ behind c.args.fields.now.items c.deref.result.now (fields_of c.in-Some.text.now) c.len-start.result (ap shown c.deref.ensures.value ∙ c.in_ok-push_fields.ensures) (c.len-start.ensures ∙ c.args.fields.now.ok.0) in
    line_fields c.args.page (map column_value c.args.columns.now) c.args.row c.args.line.now _ (sym c.in-Some.ensures.is) long (c.in-Err.ensures ∙ ap (fields_fault c.args.row 1 (map column_value c.args.columns.now)) (added ∙ ap fields_of c.in-Some.ensures.read))
