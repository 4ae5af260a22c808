use Rattle.std.specs.List.{slice_index_or}
use Rattle.std.proofs.Common.{◌∙◌, ◌+◌, ◌<◌, List, ℕ, Bor, length, refl, sym, ap, subst, map, arith}
use Rattle.std.proofs.lemmas.List.{length-map}
use Rattle.mi_rows.specs.Fields.{values_of, last_condition}
use Rattle.mi_rows.specs.Columns.{column_as}
use Rattle.mi_rows.specs.Values.{Row}
use Rattle.mi_rows.specs.Reads.{raw_row}
use Rattle.mi_rows.proofs.FieldLemmas.{value_shown}
use Rattle.mi_rows.proofs.FitLemmas.{row_fits, fit_at, text_shows, no_text, columns_there, few_rows, few_columns}
use Rattle.mi_rows.proofs.RowLemmas.{IsReading, reads_more, fault_here, reads_all, refused_as}
use Rattle.mi_rows.proofs.row.read_row.Goals as goal

pub bounds-texts-i : goal.bounds-texts-i
bounds-texts-i c =
    let many = columns_there (map column_as c.args.layout.now.columns.now) c.args.table.now c.requires.columns in
    omega (arith, many, c.requires.texts.many, c.loop-i-test.true, length-map c.args.layout.now.columns.now column_as, length-map c.args.texts.now (λ (b : Bor (List ℕ)). b.now))

pub overflow_cast-number : goal.overflow_cast-number
overflow_cast-number c = let few = few_rows c.args.table.now c.requires.spelled in omega (arith, few, c.requires.in_range, c.args.table.now.rows.ok)

pub overflow_add-number : goal.overflow_add-number
overflow_add-number c = let few = few_rows c.args.table.now c.requires.spelled in omega (arith, few, c.requires.in_range, c.args.table.now.rows.ok)

pub overflow_cast-i : goal.overflow_cast-i
overflow_cast-i c =
    let many = columns_there (map column_as c.args.layout.now.columns.now) c.args.table.now c.requires.columns in
    let few = few_columns c.args.table.now c.requires.spelled in
    omega (arith, many, few, c.loop-i-test.true, length-map c.args.layout.now.columns.now column_as)

pub overflow_add-i : goal.overflow_add-i
overflow_add-i c =
    let many = columns_there (map column_as c.args.layout.now.columns.now) c.args.table.now c.requires.columns in
    let few = few_columns c.args.table.now c.requires.spelled in
    omega (arith, many, few, c.loop-i-test.true, length-map c.args.layout.now.columns.now column_as)

pub loop-i-init : goal.loop-i-init
loop-i-init c =
    let none = ap values_of c.clear.ensures.items in
    record {
      reading = λ keys before knows seen. subst (λ (row : Row). IsReading c.args.layout.now.name.now (c.args.number + 1) keys before (map column_as c.args.layout.now.columns.now) (raw_row c.args.table.now c.args.number) 0 row) (sym none) (record { value = refl; fault = refl });
      condition = c.begin.ensures.condition ∙ ap last_condition (sym none);
      memory = c.begin.ensures.failed ∙ c.requires.memory;
    }

pub add_field-requires : goal.add_field-requires
add_field-requires c =
    let listed = c.args.layout.now.columns.now in
    let many = columns_there (map column_as c.args.layout.now.columns.now) c.args.table.now c.requires.columns in
    let within : c.loop-i.i < length c.args.table.now.columns.items = omega (arith, many, c.loop-i-test.true, length-map c.args.layout.now.columns.now column_as) in
    let shows = text_shows c.args.table.now c.args.number c.args.texts.now c.requires.texts c.loop-i.i within no_text in
    let fit = fit_at listed (raw_row c.args.table.now c.args.number) (row_fits (map column_as listed) c.args.table.now c.requires.spelled c.requires.columns c.args.number (omega (arith, c.requires.in_range, c.args.table.now.rows.ok))) c.loop-i.i _ c.loop-i-test.true in
    record { condition = (c.in-Ok.ensures _ shows fit.0 c.requires.knows.0 c.requires.seen.0 c.requires.knows.1 c.requires.seen.1).1 }

pub returns-in-Err : goal.returns-in-Err
returns-in-Err c = λ keys before knows seen.
    let listed = c.args.layout.now.columns.now in
    let many = columns_there (map column_as c.args.layout.now.columns.now) c.args.table.now c.requires.columns in
    let within : c.loop-i.i < length c.args.table.now.columns.items = omega (arith, many, c.loop-i-test.true, length-map c.args.layout.now.columns.now column_as) in
    let shows = text_shows c.args.table.now c.args.number c.args.texts.now c.requires.texts c.loop-i.i within no_text in
    let cells = raw_row c.args.table.now c.args.number in
    let fit = fit_at listed cells (row_fits (map column_as listed) c.args.table.now c.requires.spelled c.requires.columns c.args.number (omega (arith, c.requires.in_range, c.args.table.now.rows.ok))) c.loop-i.i _ c.loop-i-test.true in
    refused_as _ _ _
    (λ bad some.
    fault_here listed cells c.loop-i.i (values_of c.loop-i.fields.items) _ c.loop-i-test.true fit.1 c.args.layout.now.name.now (c.args.number + 1) keys before (c.loop-i.invariant.reading keys before knows seen) (values_of c.as_slice.result.now) bad (ap values_of c.as_slice.ensures.value) some)
    c.in-Err.error c.error_at.result c.error_at.ensures (c.in-Err.ensures _ shows fit.0 keys before knows seen)

pub loop-i-preserved : goal.loop-i-preserved
loop-i-preserved c =
    let listed = c.args.layout.now.columns.now in
    let many = columns_there (map column_as c.args.layout.now.columns.now) c.args.table.now c.requires.columns in
    let within : c.loop-i.i < length c.args.table.now.columns.items = omega (arith, many, c.loop-i-test.true, length-map c.args.layout.now.columns.now column_as) in
    let shows = text_shows c.args.table.now c.args.number c.args.texts.now c.requires.texts c.loop-i.i within no_text in
    let cells = raw_row c.args.table.now c.args.number in
    let row : Row = values_of c.loop-i.fields.items in
    let fit = fit_at listed cells (row_fits (map column_as listed) c.args.table.now c.requires.spelled c.requires.columns c.args.number (omega (arith, c.requires.in_range, c.args.table.now.rows.ok))) c.loop-i.i _ c.loop-i-test.true in
    let more = c.in_ok-add_field-in-Ok.ensures row (record { values = refl; condition = c.loop-i.invariant.condition; memory = c.loop-i.invariant.memory }) in
    record {
      reading = λ keys before knows seen.
          reads_more listed cells c.loop-i.i row _ c.loop-i-test.true fit.1 c.args.layout.now.name.now (c.args.number + 1) keys before (c.loop-i.invariant.reading keys before knows seen)
          (values_of c.as_slice.result.now) (values_of c.add_field.new.fields.items) _ (ap values_of c.as_slice.ensures.value) more.values
          ((c.in-Ok.ensures _ shows fit.0 keys before knows seen).0, value_shown (record { kind = _; text = slice_index_or c.args.texts.now c.loop-i.i no_text; start = c.loop-i.take.field }) _ shows fit.0);
      condition = more.condition ∙ ap last_condition (sym more.values);
      memory = more.memory;
    }

pub returns : goal.returns
returns c = λ keys before knows seen.
    let cols = map column_as c.args.layout.now.columns.now in
    let read = reads_all c.args.layout.now.name.now (c.args.number + 1) keys before cols (raw_row c.args.table.now c.args.number) c.loop-i.i (values_of c.loop-i.fields.items)
    (omega (arith, c.loop-i-test.false, c.loop-i.auto.i-end, length-map c.args.layout.now.columns.now column_as)) (c.loop-i.invariant.reading keys before knows seen) in
    (read.0, record { values = read.1; condition = c.loop-i.invariant.condition ∙ ap last_condition read.1; memory = c.loop-i.invariant.memory })
