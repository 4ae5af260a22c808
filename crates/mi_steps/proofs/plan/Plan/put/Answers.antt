use Rattle.std.proofs.Common.{ap, ◌∙◌}
use Rattle.mi_script.specs.Spelled.{is_file_name}
use Rattle.mi_steps.proofs.StepLemmas.{no_file_name}
use Rattle.mi_steps.proofs.plan.Plan.put.Goals as goal

pub put_named-requires-clause-plain : goal.put_named-requires-clause-plain
put_named-requires-clause-plain c = ap is_file_name c.in-Ok.ensures.name ∙ no_file_name c.args.entry c.requires
