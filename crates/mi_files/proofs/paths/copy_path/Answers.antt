-- By the row of its file.
use Rattle.std.proofs.Common.{◌≡◌, Some, None, ap, ◌∙◌}
use Rattle.std.proofs.lemmas.Result.{IfOk-weaker}
use Rattle.mi_schema.specs.declared.package.Package.{Package}
use Rattle.mi_schema.specs.RowsOf.{rows_in}
use Rattle.mi_schema.specs.TableRows.{file_row_of}
use Rattle.mi_files.proofs.RowPathLemmas.{copy_path_is}
use Rattle.mi_files.proofs.paths.copy_path.Goals as goal

pub returns-in-Some-clause-path : goal.returns-in-Some-clause-path
returns-in-Some-clause-path g c = λ w asked.
    let p = g.E.Sees.rows c.args.seen.now in
    let found : Some c.in-Some.file.now ≡ file_row_of (rows_in p) c.args.row.now.file = c.in-Some.ensures ∙ ap (λ (q : Package). file_row_of (rows_in q) c.args.row.now.file) c.package.ensures in
    IfOk-weaker c.copy_of.result _ _ (λ o is. is ∙ copy_path_is (g.E.Env.lookups c.args.seen.now) (g.E.Sees.choices c.args.seen.now) p w asked c.args.row.now (Some c.in-Some.file.now) found) c.copy_of.ensures.path

pub returns-in-None-clause-path : goal.returns-in-None-clause-path
returns-in-None-clause-path g c = λ w asked.
    let p = g.E.Sees.rows c.args.seen.now in
    copy_path_is (g.E.Env.lookups c.args.seen.now) (g.E.Sees.choices c.args.seen.now) p w asked c.args.row.now None (c.in-None.ensures ∙ ap (λ (q : Package). file_row_of (rows_in q) c.args.row.now.file) c.package.ensures)
