use Rattle.mi_laws.proofs.ValueLemmas as lemma
use Rattle.mi_laws.proofs.phase_laws.values_go_by_rows.Goals as goal

pub returns : goal.returns
returns c = lemma.values_go_by_rows
