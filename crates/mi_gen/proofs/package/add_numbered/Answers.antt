use Rattle.std.proofs.Common.{◌≡◌, ◌∙◌}
use Rattle.std.specs.FinMap.{insert}
use Rattle.mi_source.specs.MemSource.{files_in}
use Rattle.mi_gen.specs.Tables.{file_for}
use Rattle.mi_gen.proofs.package.add_numbered.Goals as goal

pub returns-clause-files : goal.returns-clause-files
returns-clause-files c =
    let bytes : c.deref.result.now ≡ (file_for c.args.table c.args.files).1 = c.deref.ensures.value ∙ c.in_ok-text.ensures in
    c.in_ok-add.ensures.ok ∙ (λ i. insert (files_in c.args.source.now) (c.path.ensures i) (bytes i))
