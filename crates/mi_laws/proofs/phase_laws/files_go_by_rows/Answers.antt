use Rattle.mi_laws.proofs.FileLemmas as lemma
use Rattle.mi_laws.proofs.phase_laws.files_go_by_rows.Goals as goal

pub returns : goal.returns
returns c = lemma.files_go_by_rows
