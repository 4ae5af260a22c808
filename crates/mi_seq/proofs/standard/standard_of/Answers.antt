-- What is found has the name.
use Rattle.std.proofs.Common.{ap, ◌∙◌}
use Rattle.mi_model.specs.States.{named}
use Rattle.mi_seq.proofs.StandardLemmas.{named_if}
use Rattle.mi_seq.proofs.standard.standard_of.Goals as goal

pub returns-clause-is_named : goal.returns-clause-is_named
returns-clause-is_named c = named_if c.args.action.now c.find_in.result (c.find_in.ensures ∙ ap (named c.args.action.now) c.standard_actions.ensures)
