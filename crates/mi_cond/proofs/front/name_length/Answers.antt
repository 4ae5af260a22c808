use Rattle.std.proofs.Common.{◌∙◌, sym, arith}
use Rattle.mi_cond.specs.Lex.{is_name_byte}
use Rattle.mi_cond.proofs.FrontFinds.{length_here, length_more, length_end}
use Rattle.mi_cond.proofs.front.name_length.Goals as goal

pub returns-then-not-is_name_byte : goal.returns-then-not-is_name_byte
returns-then-not-is_name_byte c = length_here is_name_byte c.args.text.now c.loop-i.i c.loop-i-test.true (sym c.is_name_byte.ensures ∙ c.if-not-is_name_byte.true) c.loop-i.invariant

pub loop-i-preserved : goal.loop-i-preserved
loop-i-preserved c = length_more is_name_byte c.args.text.now c.loop-i.i c.loop-i-test.true (sym c.is_name_byte.ensures ∙ c.if-not-is_name_byte.false) c.loop-i.invariant

pub returns : goal.returns
returns c = length_end is_name_byte c.args.text.now c.loop-i.i (omega arith) (omega arith) c.loop-i.invariant
