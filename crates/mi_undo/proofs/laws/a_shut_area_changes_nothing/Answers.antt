use Rattle.mi_undo.proofs.SettleSteps.{stands_shut}
use Rattle.mi_undo.proofs.laws.a_shut_area_changes_nothing.Goals as goal

pub returns : goal.returns
returns c = λ d shut. stands_shut d shut
