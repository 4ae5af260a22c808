-- By the variable that is held.
use Rattle.std.proofs.Common.{ap}
use Rattle.std.specs.Prelude.{option_map}
use Rattle.std.specs.FinMap.{get}
use Rattle.std.proofs.lemmas.Result.{IfOk-weaker}
use Rattle.mi_base.specs.declared.entry.Entry.TheVariants as entry
use Rattle.mi_base.specs.Machine.{as_variable}
use Rattle.mi_image.specs.Items.{machine_over}
use Rattle.mi_model.specs.RemoveEnvironmentStrings.{less_part}
use Rattle.mi_environment.proofs.TakeLemmas.{part_held}
use Rattle.mi_environment.proofs.take.part_less.Goals as goal

pub returns-in-Some-clause-left : goal.returns-in-Some-clause-left
returns-in-Some-clause-left c = λ held files.
    let o = as_variable (get (machine_over held files c.args.image.now) c.args.at.now) in
    IfOk-weaker c.less_part.result _ _ (λ rest is. part_held c.args.part.now o c.in-Some.variable.now (option_map entry.Variable rest) is (c.in-Some.ensures.value held files)) c.less_part.ensures.left

pub returns-in-Some-clause-named : goal.returns-in-Some-clause-named
returns-in-Some-clause-named c = c.less_part.ensures.named c.args.at.now c.in-Some.ensures.named

pub returns-in-None-clause-left : goal.returns-in-None-clause-left
returns-in-None-clause-left c = λ held files. ap (less_part c.args.part.now) (c.in-None.ensures.value held files)
