-- By the last name of a path.
use Rattle.mi_text.proofs.PathLemmas.{below_law, file_law}
use Rattle.mi_text.proofs.laws.parent_is_the_folder.Goals as goal

pub returns-clause-below : goal.returns-clause-below
returns-clause-below c = below_law c.args.folder.now c.args.part.now c.requires

pub returns-clause-file : goal.returns-clause-file
returns-clause-file c = file_law c.args.folder.now c.args.part.now c.requires
