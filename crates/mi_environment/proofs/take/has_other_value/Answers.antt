-- By the variable that is held.
use Rattle.std.proofs.Common.{ap, ◌∙◌}
use Rattle.mi_environment.specs.Variables.{has_other_value}
use Rattle.mi_environment.proofs.take.has_other_value.Goals as goal

pub returns-in-Some : goal.returns-in-Some
returns-in-Some c = λ held files. c.has_another_value.ensures ∙ ap (has_other_value c.args.text.now) (c.in-Some.ensures.value held files)

pub returns-in-None : goal.returns-in-None
returns-in-None c = λ held files. ap (has_other_value c.args.text.now) (c.in-None.ensures.value held files)
