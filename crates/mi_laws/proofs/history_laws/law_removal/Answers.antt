use Rattle.mi_laws.proofs.LastClientLemmas as last
use Rattle.mi_laws.proofs.RemovalLemmas as lemma
use Rattle.mi_laws.proofs.history_laws.law_removal.Goals as goal

pub returns-clause-rows : goal.returns-clause-rows
returns-clause-rows c = lemma.law_removal

pub returns-clause-clients : goal.returns-clause-clients
returns-clause-clients c = last.last_clients
