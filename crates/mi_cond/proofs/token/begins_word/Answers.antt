use Rattle.std.proofs.Common.{◌∙◌}
use Rattle.mi_cond.proofs.FrontFinds.{begins_taken, begins_none}
use Rattle.mi_cond.proofs.token.begins_word.Goals as goal

pub returns-then-front-word : goal.returns-then-front-word
returns-then-front-word c = c.is_word.ensures ∙ begins_taken c.args.word.now c.args.front.now c.if-front-word.true

pub returns-else-front-word : goal.returns-else-front-word
returns-else-front-word c = begins_none c.args.word.now c.args.front.now c.if-front-word.false
