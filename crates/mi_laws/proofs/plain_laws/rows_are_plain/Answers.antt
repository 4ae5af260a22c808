use Rattle.mi_laws.proofs.PlainWalkLemmas as lemma
use Rattle.mi_laws.proofs.plain_laws.rows_are_plain.Goals as goal

pub returns : goal.returns
returns c = lemma.rows_are_plain
