-- The property, or its refusal.
use Rattle.std.proofs.Common.{ap}
use Rattle.std.specs.FinMap.{insert}
use Rattle.mi_world.specs.declared.world.World.{World}
use Rattle.mi_plan.proofs.ArmLemmas.{property_went, property_ended, leaves_property}
use Rattle.mi_plan.proofs.arms.set_property.Goals as goal

pub returns-in-Ok-clause-begins : goal.returns-in-Ok-clause-begins
returns-in-Ok-clause-begins c = λ held files folder. property_went held files folder c.args.action c.args.name.now c.args.text.now c.args.world.now c.set.new.self (λ a g over. c.in-Ok.ensures.set held files g a) (ap (λ (w : World). w.plan) c.in-Ok.ensures.ok)

pub returns-in-Ok-clause-leaves : goal.returns-in-Ok-clause-leaves
returns-in-Ok-clause-leaves c = λ _. leaves_property c.args.action c.args.name.now c.args.text.now c.args.world.now c.set.new.self (insert c.args.world.now.seen.props c.args.name.now c.args.text.now) c.in-Ok.ensures.ok c.in-Ok.ensures.seen

pub returns-in-Err-Fault-clause-begins : goal.returns-in-Err-Fault-clause-begins
returns-in-Err-Fault-clause-begins c = λ held files folder. property_ended held files folder c.args.action c.args.name.now c.args.text.now c.args.world.now c.set.new.self (rw c.in-Err-Fault.field-0-is at c.in-Err-Fault.ensures.refused).1
