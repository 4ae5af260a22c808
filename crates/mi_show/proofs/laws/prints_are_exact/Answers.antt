use Rattle.mi_show.proofs.WholeLemmas.{prints_exact}
use Rattle.mi_show.proofs.laws.prints_are_exact.Goals as goal

pub returns-whole : goal.returns-whole
returns-whole c = prints_exact
