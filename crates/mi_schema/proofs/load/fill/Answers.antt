use Rattle.std.proofs.Common.{◌≡◌, ◌∙◌, None, refl, ap, subst}
use Rattle.std.proofs.lemmas.Result.{err_from_is_err_and}
use Rattle.mi_source.specs.Paths.{Files}
use Rattle.mi_schema.specs.Checks.{Content, content_of, tables_fault}
use Rattle.mi_schema.specs.Tables.{tables}
use Rattle.mi_schema.specs.RowsOf.{IsPackage, rows_of_content}
use Rattle.mi_schema.proofs.LawfulLaws.{of_folder}
use Rattle.mi_schema.proofs.PackageLaws.{are_named, tables_small}
use Rattle.mi_schema.proofs.RowLaws.{rows_in-IsPackage}
use Rattle.mi_schema.proofs.TopLemmas.{missing_fails, tables_fail, rows_fail, no_fault}
use Rattle.mi_schema.proofs.load.fill.Goals as goal

pub returns-in_err-require_tables-clause-value : goal.returns-in_err-require_tables-clause-value
returns-in_err-require_tables-clause-value g c = λ told.
    let p = err_from_is_err_and c.from_residual.result c.from_residual.ensures.1 in
    rw (p.1, p.2) (missing_fails (g.S.Source.files c.args.src.now) (g.S.Source.files c.args.src.now) c.args.folder.now refl _ c.in_err-require_tables.field-0.0 (c.in_err-require_tables.ensures.value told))

pub returns-in_err-load_tables-clause-value : goal.returns-in_err-load_tables-clause-value
returns-in_err-load_tables-clause-value g c = λ told.
    let p = err_from_is_err_and c.from_residual-in_err-load_tables.result c.from_residual-in_err-load_tables.ensures.1 in
    rw (p.1, p.2) (tables_fail (g.S.Source.files c.args.src.now) (g.S.Source.files c.require_tables.new.src) c.args.folder.now c.in_ok-require_tables.ensures.stays _ _ _ c.in_err-load_tables.field-0.0
    c.in_ok-require_tables.ensures.counts (c.in_ok-require_tables.ensures.value told).0 (c.in_err-load_tables.ensures.fault told))

pub check_rows-requires : goal.check_rows-requires
check_rows-requires g c =
    let all = c.in_ok-load_tables.ensures.loaded in
    let is = c.name_source.ensures all.found all.holds in
    record { named = are_named _ all.found all.right is.rows; few = tables_small _ all.found all.right is.rows }

pub returns-in_err-check_rows-clause-value : goal.returns-in_err-check_rows-clause-value
returns-in_err-check_rows-clause-value g c = λ told.
    let p = err_from_is_err_and c.from_residual-in_err-check_rows.result c.from_residual-in_err-check_rows.ensures.1 in
    let all = c.in_ok-load_tables.ensures.loaded in
    let is = c.name_source.ensures all.found all.holds in
    let same : all.found ≡ content_of (g.S.Source.files c.args.src.now) c.args.folder.now = all.same told ∙ ap (λ (f : Files). content_of f c.args.folder.now) c.in_ok-require_tables.ensures.stays in
    rw (p.1, p.2) (rows_fail (g.S.Source.files c.args.src.now) (g.S.Source.files c.require_tables.new.src) c.args.folder.now c.in_ok-require_tables.ensures.stays _ _ c.in_err-check_rows.field-0.0
    (c.in_ok-require_tables.ensures.value told).0 (subst (λ (content : Content). tables_fault content tables ≡ None) same all.right) (rows_in-IsPackage _ all.found is ∙ ap rows_of_content same) c.in_err-check_rows.ensures)

pub returns-clause-value : goal.returns-clause-value
returns-clause-value g c = λ told.
    let all = c.in_ok-load_tables.ensures.loaded in
    let is = c.name_source.ensures all.found all.holds in
    let same : all.found ≡ content_of (g.S.Source.files c.args.src.now) c.args.folder.now = all.same told ∙ ap (λ (f : Files). content_of f c.args.folder.now) c.in_ok-require_tables.ensures.stays in (
      no_fault (g.S.Source.files c.args.src.now) (g.S.Source.files c.require_tables.new.src) c.args.folder.now c.in_ok-require_tables.ensures.stays _
          (c.in_ok-require_tables.ensures.value told).0 (subst (λ (content : Content). tables_fault content tables ≡ None) same all.right) (rows_in-IsPackage _ all.found is ∙ ap rows_of_content same) c.in_ok-check_rows.ensures.0,
      subst (IsPackage _) same is,
    )

pub returns-clause-lawful : goal.returns-clause-lawful
returns-clause-lawful g c =
    let all = c.in_ok-load_tables.ensures.loaded in
    of_folder _ (record { content = all.found; right_tables = all.right; is = c.name_source.ensures all.found all.holds; right = c.in_ok-check_rows.ensures.0 })
