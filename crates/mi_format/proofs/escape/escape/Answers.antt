use Rattle.mi_format.proofs.TokenLemmas.{no_escape, no_second}
use Rattle.mi_format.proofs.escape.escape.Goals as goal

pub returns-in_default-clause-value : goal.returns-in_default-clause-value
returns-in_default-clause-value c = no_escape c.args.text.now c.in_default.ensures

pub returns-in_default-first_char-clause-value : goal.returns-in_default-first_char-clause-value
returns-in_default-first_char-clause-value c = no_second c.args.text.now c.in-Some.behind.now c.in-Some.first c.in-Some.ensures.0 c.in_default-first_char.ensures
