use Rattle.mi_undo.proofs.LawLemmas.{noted_opened}
use Rattle.mi_undo.proofs.laws.entries_behind_open_gates_are_read.Goals as goal

pub returns : goal.returns
returns c = λ d parts marked opened new few shut. noted_opened d parts marked opened new few shut
