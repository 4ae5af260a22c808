use Rattle.mi_schema.proofs.PackageLaws.{references_stand}
use Rattle.mi_schema.proofs.LawfulLaws.{of_tables}
use Rattle.mi_schema.proofs.laws.references_stand.Goals as goal

pub returns : goal.returns
returns c = references_stand c.args.loaded.now (of_tables c.args.loaded.now c.requires.lawful)
