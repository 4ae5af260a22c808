use Rattle.std.specs.Prelude.{[]}
use Rattle.mi_plan.proofs.ArmLemmas.{dir_went, dir_ended, leaves_dir}
use Rattle.mi_plan.proofs.arms.set_dir.Goals as goal

pub set_dir-requires-clause-costed : goal.set_dir-requires-clause-costed
set_dir-requires-clause-costed c = (c.requires []).0

pub set_dir-requires-clause-row : goal.set_dir-requires-clause-row
set_dir-requires-clause-row c = (c.requires []).1

pub returns-in-Ok-clause-begins : goal.returns-in-Ok-clause-begins
returns-in-Ok-clause-begins c = λ held files folder action. dir_went held files folder action c.args.directory.now c.args.text.now c.args.world.now c.set_dir.new.self (λ g over. c.in-Ok.ensures.set held files g over.of) c.in-Ok.ensures.plan

pub returns-in-Ok-clause-leaves : goal.returns-in-Ok-clause-leaves
returns-in-Ok-clause-leaves c = λ action _. leaves_dir action c.args.directory.now c.args.text.now c.args.world.now c.set_dir.new.self (c.requires []).0 c.in-Ok.ensures.package c.in-Ok.ensures.seen c.in-Ok.ensures.plan

pub returns-in-Err-Fault-clause-begins : goal.returns-in-Err-Fault-clause-begins
returns-in-Err-Fault-clause-begins c = λ held files folder action. dir_ended held files folder action c.args.directory.now c.args.text.now c.args.world.now c.set_dir.new.self c.in-Err-Fault.fault (λ g over. rw c.in-Err-Fault.field-0-is at (c.in-Err-Fault.ensures.set held files g over.of))
