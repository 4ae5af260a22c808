use Rattle.mi_undo.proofs.LawLemmas.{stands_same}
use Rattle.mi_undo.proofs.laws.an_unread_entry_changes_nothing.Goals as goal

pub returns : goal.returns
returns c = λ d e alike. stands_same d e alike
