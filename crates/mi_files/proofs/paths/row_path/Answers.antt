-- By the rows and directories that are asked.
use Rattle.std.proofs.Common.{List, ℕ, ap, ◌∙◌}
use Rattle.std.proofs.lemmas.Result.{IfOk-weaker}
use Rattle.mi_text.specs.FileNames.{long_name}
use Rattle.mi_schema.specs.RowsOf.{rows_in}
use Rattle.mi_model.specs.Asked.{component_folder}
use Rattle.mi_files.specs.Paths.{file_in}
use Rattle.mi_files.proofs.RowPathLemmas.{row_path_is}
use Rattle.mi_files.proofs.paths.row_path.Goals as goal

pub returns-clause-path : goal.returns-clause-path
returns-clause-path g c = λ w asked.
    let L = g.E.Env.lookups c.args.seen.now in
    let choices = g.E.Sees.choices c.args.seen.now in
    let p = g.E.Sees.rows c.args.seen.now in
    IfOk-weaker c.file_of_component.result _ _ (λ o is.
    is
    ∙ ap (λ (n : List ℕ). file_in (long_name n) (component_folder (rows_in p) choices.dirs c.args.row.now.component)) c.as_str.ensures
    ∙ row_path_is L choices p w asked c.args.row.now)
    c.file_of_component.ensures.path
