use Rattle.std.proofs.Common.{◌≡◌, Some, OnOk, IfErr, sym, subst, ◌∙◌}
use Rattle.std.proofs.lemmas.Result.{err_from_is_err_and}
use Rattle.mi_source.specs.Counts.{Rose}
use Rattle.mi_rows.specs.Reads.{Fails}
use Rattle.mi_schema.specs.Checks.{content_of}
use Rattle.mi_rows.specs.Columns.{table_as, Table}
use Rattle.mi_schema.specs.Loaded.{AreRead}
use Rattle.mi_rows.specs.Typed.{keyed}
use Rattle.mi_rows.specs.Rows.{table_fault, table_rows}
use Rattle.mi_schema.proofs.LoadLemmas.{read_here, fault_read}
use Rattle.mi_rows.proofs.RowLemmas.{passed_on}
use Rattle.mi_rows.proofs.TableLemmas.{size_fails}
use Rattle.mi_schema.proofs.table.load_table.Goals as goal

pub returns-in_err-bytes-clause-fault : goal.returns-in_err-bytes-clause-fault
returns-in_err-bytes-clause-fault g c = λ told.
    let p = err_from_is_err_and c.from_residual.result c.from_residual.ensures.1 in
    let layout = c.args.layout.now in
    rw (p.1, p.2) (subst (λ (t : Table). Fails (Rose (g.S.Source.faults c.args.src.now) (g.S.Source.faults c.bytes_of.new.src)) (table_fault t (content_of (g.S.Source.files c.args.src.now) c.args.folder.now t.name)) c.in_err-bytes.field-0.0) c.requires.is
    (passed_on _ _ (λ x. x) _ _ (size_fails (table_as layout) (content_of (g.S.Source.files c.args.src.now) c.args.folder.now layout.name.now)) c.in_err-bytes.field-0.0 (c.in_err-bytes.ensures.fault told)))

pub returns-in-Some-clause-read : goal.returns-in-Some-clause-read
returns-in-Some-clause-read g c =
    let layout = c.args.layout.now in
    subst (λ (t : Table). OnOk c.read_shared.result (AreRead g.K.Key.key g.R.TableRow.value g.S.Source.told (content_of (g.S.Source.files c.args.src.now) c.args.folder.now t.name) t c.read_shared.new.rows.entries)) c.requires.is
    (read_here g.K.Key.key g.R.TableRow.value c.read_shared.new.rows.entries g.S.Source.told (content_of (g.S.Source.files c.args.src.now) c.args.folder.now layout.name.now) (table_as layout) (Some c.in-Some.bytes) c.read_shared.result
    (λ told. sym c.in-Some.is ∙ c.in_ok-bytes.ensures.value told) c.read_shared.ensures)

pub returns-in-Some-clause-fault : goal.returns-in-Some-clause-fault
returns-in-Some-clause-fault g c = λ told.
    let layout = c.args.layout.now in
    subst (λ (t : Table). IfErr c.read_shared.result (Fails (Rose (g.S.Source.faults c.args.src.now) (g.S.Source.faults c.bytes_of.new.src)) (table_fault t (content_of (g.S.Source.files c.args.src.now) c.args.folder.now t.name)))) c.requires.is
    (fault_read (λ _. c.read_shared.new.rows.entries ≡ keyed g.K.Key.key g.R.TableRow.value (table_rows (table_as layout) (Some c.in-Some.bytes))) _ g.S.Source.told (content_of (g.S.Source.files c.args.src.now) c.args.folder.now layout.name.now) (table_as layout) (Some c.in-Some.bytes) c.read_shared.result
    (λ told. sym c.in-Some.is ∙ c.in_ok-bytes.ensures.value told) c.read_shared.ensures told)
