-- The first row of the name.
use Rattle.std.proofs.Common.{◌≡◌, [], Option, ap, sym, ◌∙◌, arith, length}
use Rattle.std.specs.Prelude.{option_map, unwrap_or}
use Rattle.std.proofs.lemmas.List.{length-map}
use Rattle.mi_schema.specs.declared.typed_rows.PropertyRow.{PropertyRow}
use Rattle.mi_schema.specs.RowsOf.{rows_in}
use Rattle.mi_world.proofs.RowLemmas.{found_here, not_here, none_left}
use Rattle.mi_world.proofs.rows.table_value.Goals as goal

pub returns-in-Some : goal.returns-in-Some
returns-in-Some c =
    let rows = (rows_in c.args.loaded.now).property in
    c.as_str.ensures ∙ sym (ap (λ (o : Option PropertyRow). unwrap_or (option_map (λ r. r.value) o) []) (c.loop-place.invariant ∙ found_here rows c.loop-place.place c.args.name.now c.in-Some.row.now (sym c.in-Some.ensures)))

pub loop-place-preserved : goal.loop-place-preserved
loop-place-preserved c = c.loop-place.invariant ∙ not_here (rows_in c.args.loaded.now).property c.loop-place.place c.args.name.now (sym c.in-None.ensures)

pub returns : goal.returns
unfolding rows_in
returns c =
    let rows = (rows_in c.args.loaded.now).property in
    let size : length rows ≡ length c.args.loaded.now.property.entries = length-map c.args.loaded.now.property.entries (λ e. e.1) in
    sym (ap (λ (o : Option PropertyRow). unwrap_or (option_map (λ r. r.value) o) []) (c.loop-place.invariant ∙ none_left rows c.loop-place.place c.args.name.now (omega (arith, size, c.len-place-end.ensures.len, c.loop-place-test.false))))
