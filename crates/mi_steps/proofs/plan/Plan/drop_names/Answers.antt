use Rattle.std.proofs.Common.{refl, ◌∙◌}
use Rattle.mi_steps.specs.Makes.{plan_machine}
use Rattle.mi_steps.proofs.FollowLemmas.{started}
use Rattle.mi_steps.proofs.StepLemmas.{grows_not, grows_on, one_more}
use Rattle.mi_steps.proofs.plan.Plan.drop_names.Goals as goal

pub loop-name-init : goal.loop-name-init
loop-name-init c = record {
  makes = λ held files. started files (plan_machine held files c.args.self.now) c.args.self.now.script;
  there = λ held files there. there;
  former = refl;
  grows = grows_not c.args.self.now.script;
}

pub loop-name-preserved : goal.loop-name-preserved
loop-name-preserved c = record {
  makes = λ held files. one_more files (plan_machine held files c.args.self.now) (plan_machine held files c.loop-name.self) (plan_machine held files c.drop_name.new.self)
      c.args.self.now.script c.loop-name.self.script c.drop_name.new.self.script c.args.names.now c.loop-name.name-index c.name-item.result
      c.loop-name-test.true c.name-item.is (c.loop-name.invariant.makes held files) (c.in_ok-drop_name.ensures.makes held files);
  there = λ held files there. c.in_ok-drop_name.ensures.there held files (c.loop-name.invariant.there held files there);
  former = c.in_ok-drop_name.ensures.former ∙ c.loop-name.invariant.former;
  grows = grows_on c.args.self.now.script c.loop-name.self.script c.drop_name.new.self.script c.loop-name.invariant.grows c.in_ok-drop_name.ensures.grows;
}
