use Rattle.mi_schema.proofs.RowLaws.{rows_in-folder}
use Rattle.mi_schema.proofs.package.Package.load.Goals as goal

pub returns-in-Ok-clause-rows : goal.returns-in-Ok-clause-rows
returns-in-Ok-clause-rows g c = λ told.
    let read = c.in-Ok.ensures.value told in
    (read.0, rows_in-folder _ (g.S.Source.files c.args.src.now) c.args.folder.now read.1)
