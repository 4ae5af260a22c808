use Rattle.mi_laws.proofs.OneOutcomeLemmas as lemma
use Rattle.mi_laws.proofs.history_laws.every_run_comes_to_one_outcome.Goals as goal

pub returns : goal.returns
returns c = lemma.every_run_comes_to_one_outcome
