use Rattle.std.proofs.Common.{◌≡◌}
use Rattle.std.specs.List.{list_any}
use Rattle.mi_schema.specs.RowsOf.{rows_in}
use Rattle.mi_schema.specs.declared.typed_rows.ComponentRow.{ComponentRow}
use Rattle.mi_records.proofs.changing.some_comes.Given as goal

abbrev pub invariant-loop-row : goal.invariant-loop-row
invariant-loop-row g l =
    let test = λ (r : ComponentRow). (g.S.Sees.choices l.seen).coming r.component in
    list_any test l.row-iterator ≡ list_any test (rows_in (g.S.Sees.rows l.seen)).component
