use Rattle.std.proofs.Common.{true, false}
use Rattle.mi_base.specs.Machine.{variable_at}
use Rattle.mi_image.specs.Items.{machine_over}
use Rattle.mi_model.specs.Settings.{variable_of}
use Rattle.mi_world.proofs.VariableLemmas.{either}
use Rattle.mi_world.proofs.variables.Variables.of.Goals as goal

pub returns : goal.returns
unfolding variable_of
returns c = λ held files name.
    either (variable_at (machine_over held files c.args.image.now) false name) (variable_at (machine_over held files c.args.image.now) true name) _ _ (c.in_ok-user.ensures held files name) (c.in_ok-system.ensures held files name)
