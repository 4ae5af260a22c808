use Rattle.mi_schema.proofs.PackageLaws.{tables_small}
use Rattle.mi_schema.proofs.LawfulLaws.{of_tables}
use Rattle.mi_schema.proofs.laws.tables_small.Goals as goal

pub returns : goal.returns
returns c = let l = of_tables c.args.loaded.now c.requires.lawful in tables_small c.args.loaded.now l.content l.right_tables l.is.rows
