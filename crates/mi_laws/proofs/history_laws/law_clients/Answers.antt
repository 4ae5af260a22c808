use Rattle.mi_laws.proofs.ClientHistoryLemmas as lemma
use Rattle.mi_laws.proofs.history_laws.law_clients.Goals as goal

pub returns : goal.returns
returns c = lemma.law_clients
