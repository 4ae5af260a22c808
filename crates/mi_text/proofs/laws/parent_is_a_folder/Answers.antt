-- By the last name of a path.
use Rattle.mi_text.proofs.PathLemmas.{parent_path}
use Rattle.mi_text.proofs.laws.parent_is_a_folder.Goals as goal

pub returns : goal.returns
returns c = parent_path c.args.path.now c.requires
