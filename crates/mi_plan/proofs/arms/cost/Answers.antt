use Rattle.mi_plan.proofs.ArmLemmas.{cost_went, cost_ended, leaves_cost}
use Rattle.mi_plan.proofs.arms.cost.Goals as goal

pub returns-in-Ok-clause-begins : goal.returns-in-Ok-clause-begins
returns-in-Ok-clause-begins c = λ held files. cost_went held files c.args.folder.now c.args.world.now c.cost.new.self (λ g over. c.in-Ok.ensures.cost held files g over.of over.former over.there) c.in-Ok.ensures.plan

pub returns-in-Ok-clause-leaves : goal.returns-in-Ok-clause-leaves
returns-in-Ok-clause-leaves c = λ _. leaves_cost c.args.world.now c.cost.new.self c.in-Ok.ensures.package c.in-Ok.ensures.seen c.in-Ok.ensures.plan

pub returns-in-Err-Fault-clause-begins : goal.returns-in-Err-Fault-clause-begins
returns-in-Err-Fault-clause-begins c = λ held files. cost_ended held files c.args.folder.now c.args.world.now c.cost.new.self c.in-Err-Fault.fault (λ g over. rw c.in-Err-Fault.field-0-is at (c.in-Err-Fault.ensures.cost held files g over.of over.former over.there))
