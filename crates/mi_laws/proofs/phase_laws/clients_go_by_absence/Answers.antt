use Rattle.mi_laws.proofs.ClientLemmas as lemma
use Rattle.mi_laws.proofs.phase_laws.clients_go_by_absence.Goals as goal

pub returns : goal.returns
returns c = lemma.clients_go_by_absence
