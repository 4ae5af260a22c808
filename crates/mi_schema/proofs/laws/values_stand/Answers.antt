use Rattle.mi_schema.proofs.PackageLaws.{values_stand}
use Rattle.mi_schema.proofs.LawfulLaws.{of_tables}
use Rattle.mi_schema.proofs.laws.values_stand.Goals as goal

pub returns : goal.returns
returns c = let l = of_tables c.args.loaded.now c.requires.lawful in values_stand c.args.loaded.now l.content l.right_tables l.is.rows
