use Rattle.mi_laws.proofs.MomentLemmas as lemma
use Rattle.mi_laws.proofs.history_laws.law_settle.Goals as goal

pub returns : goal.returns
returns c = lemma.law_settle
