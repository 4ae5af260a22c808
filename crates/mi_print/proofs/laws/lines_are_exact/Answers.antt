use Rattle.mi_print.proofs.LawLemmas.{lines_exact, trees_exact}
use Rattle.mi_print.proofs.laws.lines_are_exact.Goals as goal

pub returns-clause-lines : goal.returns-clause-lines
returns-clause-lines c = lines_exact

pub returns-clause-trees : goal.returns-clause-trees
returns-clause-trees c = trees_exact
