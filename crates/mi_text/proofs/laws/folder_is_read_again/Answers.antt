-- By the parts of a path.
use Rattle.mi_text.proofs.PathLemmas.{folder_law, canonical_law, apart_law}
use Rattle.mi_text.proofs.laws.folder_is_read_again.Goals as goal

pub returns-clause-folder : goal.returns-clause-folder
returns-clause-folder c = folder_law c.args.text.now

pub returns-clause-canonical : goal.returns-clause-canonical
returns-clause-canonical c = canonical_law c.args.text.now

pub returns-clause-apart : goal.returns-clause-apart
returns-clause-apart c = apart_law c.args.text.now
