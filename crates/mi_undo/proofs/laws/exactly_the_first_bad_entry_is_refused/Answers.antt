use Rattle.mi_undo.proofs.SpelledLemmas.{bad_refused, refused_bad}
use Rattle.mi_undo.proofs.laws.exactly_the_first_bad_entry_is_refused.Goals as goal

pub returns-clause-only : goal.returns-clause-only
returns-clause-only c = λ d name all is. bad_refused d name all is

pub returns-clause-first : goal.returns-clause-first
returns-clause-first c = λ d name all b. refused_bad d name all b
