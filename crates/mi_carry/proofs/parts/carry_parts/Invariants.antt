use Rattle.std.proofs.Common.{take}
use Rattle.mi_carry.proofs.PartLemmas.{PartsSoFar}
use Rattle.mi_carry.proofs.parts.carry_parts.Given as goal

abbrev pub invariant-loop-part : goal.invariant-loop-part
invariant-loop-part g l = PartsSoFar g.V.Volume.told g.V.Volume.state g.S.Source.told g.S.Source.files g.S.Source.faults l.fn.area l.area l.fn.src l.src l.parts (take l.part-index l.parts) l.part-index
