use Rattle.mi_schema.proofs.PackageLaws.{parents_end}
use Rattle.mi_schema.proofs.LawfulLaws.{of_tables}
use Rattle.mi_schema.proofs.laws.parents_end.Goals as goal

pub returns : goal.returns
returns c = parents_end c.args.loaded.now (of_tables c.args.loaded.now c.requires.lawful)
