use Rattle.std.proofs.Common.{sym}
use Rattle.mi_undo.proofs.StandsLemmas.{unnoted_is}
use Rattle.mi_undo.proofs.LawLemmas.{noted_is, inside_none}
use Rattle.mi_undo.proofs.laws.noted_names_are_restored.Goals as goal

pub returns-clause-noted : goal.returns-clause-noted
returns-clause-noted c = λ d F ns is stands_for q w noted_q. noted_is d F ns is stands_for q w noted_q

pub returns-clause-others : goal.returns-clause-others
returns-clause-others c = λ d F ns is stands_for q out none. sym (unnoted_is d F ns stands_for is q out none)

pub returns-clause-inside : goal.returns-clause-inside
returns-clause-inside c = λ d F stands_for q inside. inside_none d F stands_for q inside
