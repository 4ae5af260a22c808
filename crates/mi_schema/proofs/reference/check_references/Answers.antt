use Rattle.std.proofs.lemmas.Result.{err_from_is_err_and}
use Rattle.mi_schema.specs.RowsOf.{rows_in}
use Rattle.mi_schema.proofs.CheckLemmas.{listed_fails}
use Rattle.mi_rows.proofs.RowLemmas.{passed_on}
use Rattle.mi_schema.proofs.reference.check_references.Goals as goal

pub returns-in_err-check_known : goal.returns-in_err-check_known
returns-in_err-check_known c =
    let p = err_from_is_err_and c.from_residual.result c.from_residual.ensures.1 in
    rw (p.1, p.2) (passed_on ⊥ ⊥ (λ x. x) _ _ (listed_fails (rows_in c.args.loaded.now) c.tables-table-items.result.now c.loop-table.table-index _ _ c.loop-table-test.true c.in-Known.is c.tables-table-items.ensures c.loop-table.invariant) c.in_err-check_known.field-0.0 c.in_err-check_known.ensures)
