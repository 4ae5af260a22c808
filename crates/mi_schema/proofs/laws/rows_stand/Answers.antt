use Rattle.mi_schema.proofs.LawfulLaws.{of_tables}
use Rattle.mi_schema.proofs.PackageLaws.{properties_stand, source_stands}
use Rattle.mi_schema.proofs.SizeLaws.{texts_short, conditions_stand, names_stand}
use Rattle.mi_schema.proofs.laws.rows_stand.Goals as goal

pub returns-clause-properties : goal.returns-clause-properties
returns-clause-properties c = properties_stand c.args.loaded.now (of_tables c.args.loaded.now c.requires.lawful)

pub returns-clause-source : goal.returns-clause-source
returns-clause-source c = source_stands c.args.loaded.now (of_tables c.args.loaded.now c.requires.lawful)

pub returns-clause-texts : goal.returns-clause-texts
returns-clause-texts c = texts_short c.args.loaded.now (of_tables c.args.loaded.now c.requires.lawful)

pub returns-clause-conditions : goal.returns-clause-conditions
returns-clause-conditions c = conditions_stand c.args.loaded.now (of_tables c.args.loaded.now c.requires.lawful)

pub returns-clause-names : goal.returns-clause-names
returns-clause-names c = names_stand c.args.loaded.now (of_tables c.args.loaded.now c.requires.lawful)
