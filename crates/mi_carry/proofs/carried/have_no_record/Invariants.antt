use Rattle.std.proofs.Common.{take}
use Rattle.mi_carry.specs.Segments.{HaveNoRecord}
use Rattle.mi_carry.proofs.carried.have_no_record.Given as goal

abbrev pub invariant-loop-part : goal.invariant-loop-part
invariant-loop-part l = HaveNoRecord (take l.part-index l.parts)
