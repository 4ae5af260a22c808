use Rattle.mi_undo.proofs.EncodeLemmas.{notes_of-spelled}
use Rattle.mi_undo.proofs.laws.spelled_notes_are_read.Goals as goal

pub returns : goal.returns
returns c = λ ns fit. notes_of-spelled ns fit
