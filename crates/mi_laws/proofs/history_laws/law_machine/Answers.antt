use Rattle.mi_laws.proofs.CommittedLemmas as lemma
use Rattle.mi_laws.proofs.history_laws.law_machine.Goals as goal

pub returns : goal.returns
returns c = lemma.law_machine
