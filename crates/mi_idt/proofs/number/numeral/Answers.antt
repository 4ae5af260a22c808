use Rattle.mi_idt.proofs.Numbers.{numeral_is}
use Rattle.mi_idt.proofs.number.numeral.Goals as goal

pub returns : goal.returns
returns c = numeral_is c.args.field.now c.loop-digit.digit-index c.loop-digit.number c.if-is_empty.false c.is_empty.ensures c.loop-digit-test.false c.loop-digit.invariant.same
