use Rattle.mi_laws.proofs.PlainWalkLemmas as lemma
use Rattle.mi_laws.proofs.plain_laws.walks_are_plain.Goals as goal

pub returns : goal.returns
returns c = lemma.walks_are_plain
