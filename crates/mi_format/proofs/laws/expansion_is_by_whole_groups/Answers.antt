use Rattle.mi_format.proofs.LawLemmas.{fault_is, some_is, not_deep, only_is, refused_is, groups_are, is_deep}
use Rattle.mi_format.proofs.laws.expansion_is_by_whole_groups.Goals as goal

pub returns-clause-some : goal.returns-clause-some
returns-clause-some c = λ L text x e. groups_are L text x (some_is L text x e).1

pub returns-clause-shallow : goal.returns-clause-shallow
returns-clause-shallow c = λ L text x e. not_deep text (some_is L text x e).0

pub returns-clause-only : goal.returns-clause-only
returns-clause-only c = λ L text x e shallow. only_is L text x e shallow

pub returns-clause-deep : goal.returns-clause-deep
returns-clause-deep c = λ L text e. refused_is L text e

pub returns-clause-refused : goal.returns-clause-refused
returns-clause-refused c = λ L text d. fault_is L text (is_deep text d)
