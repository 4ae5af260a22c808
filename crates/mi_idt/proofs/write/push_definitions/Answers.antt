use Rattle.mi_idt.proofs.Joins.{definitions_are}
use Rattle.mi_idt.proofs.write.push_definitions.Goals as goal

pub returns : goal.returns
returns c = definitions_are c.args.columns.now c.loop-i.i c.args.out.now.items c.loop-i.out.items c.loop-i-test.false c.loop-i.invariant
