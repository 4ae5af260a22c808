-- Each name so far stands outside the area.
use Rattle.std.proofs.Common.{take}
use Rattle.mi_undo.specs.Area.{AreOutside}
use Rattle.mi_area_cases.proofs.segments.check_outside.Given as goal

abbrev pub invariant-loop-name : goal.invariant-loop-name
invariant-loop-name l = AreOutside (take l.name-index l.names)
