use Rattle.mi_schema.proofs.PackageLaws.{keys_apart}
use Rattle.mi_schema.proofs.LawfulLaws.{of_tables}
use Rattle.mi_schema.proofs.laws.keys_apart.Goals as goal

pub returns : goal.returns
returns c = let l = of_tables c.args.loaded.now c.requires.lawful in keys_apart c.args.loaded.now l.content l.right_tables l.is.rows
