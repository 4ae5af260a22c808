use Rattle.mi_undo.proofs.SpelledLemmas.{spelled_so}
use Rattle.mi_undo.proofs.laws.what_is_read_is_spelled_so.Goals as goal

pub returns : goal.returns
returns c = λ bytes ns all is. spelled_so bytes ns all is
