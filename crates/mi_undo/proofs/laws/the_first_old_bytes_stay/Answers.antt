use Rattle.mi_undo.proofs.LawLemmas.{first_stays}
use Rattle.mi_undo.proofs.laws.the_first_old_bytes_stay.Goals as goal

pub returns : goal.returns
returns c = λ d ns later q w is. first_stays d ns later q w is
