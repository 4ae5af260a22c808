use Rattle.std.proofs.Common.{◌∙◌}
use Rattle.mi_format.proofs.TokenLemmas.{none_behind}
use Rattle.mi_format.proofs.escape.behind_close.Goals as goal

pub returns-clause-value : goal.returns-clause-value
returns-clause-value c = none_behind c.loop-first.rest.now c.in_default.ensures ∙ c.loop-first.invariant.2
