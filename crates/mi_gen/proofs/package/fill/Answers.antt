use Rattle.std.proofs.Common.{◌∙◌, ap}
use Rattle.mi_source.specs.Paths.{Files}
use Rattle.mi_gen.specs.Tables.{with_numbered, with_fixed}
use Rattle.mi_gen.proofs.PackageLemmas.{whole_package}
use Rattle.mi_gen.proofs.package.fill.Goals as goal

pub returns-clause-files : goal.returns-clause-files
returns-clause-files c =
    c.in_ok-add_fixed_tables.ensures.files ∙ ap with_fixed c.in_ok-add_numbered_tables.ensures.files
    ∙ ap (λ (files : Files). with_fixed (with_numbered files c.args.files)) c.in_ok-add_contents.ensures.files
    ∙ whole_package c.args.files
