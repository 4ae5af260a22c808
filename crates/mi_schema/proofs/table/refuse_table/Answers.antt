use Rattle.std.proofs.lemmas.Result.{err_from_is_err_and}
use Rattle.mi_schema.specs.Checks.{content_of}
use Rattle.mi_rows.specs.Columns.{refused}
use Rattle.mi_rows.proofs.RowLemmas.{passed_on}
use Rattle.mi_rows.proofs.TableLemmas.{size_fails}
use Rattle.mi_schema.proofs.table.refuse_table.Goals as goal

pub returns-in_err-bytes-clause-fault : goal.returns-in_err-bytes-clause-fault
returns-in_err-bytes-clause-fault g c = λ told.
    let p = err_from_is_err_and c.from_residual.result c.from_residual.ensures.1 in
    rw (p.1, p.2) (passed_on _ _ (λ x. x) _ _ (size_fails (refused c.args.name.now) (content_of (g.S.Source.files c.args.src.now) c.args.folder.now c.args.name.now)) c.in_err-bytes.field-0.0 (c.in_err-bytes.ensures.fault told))
