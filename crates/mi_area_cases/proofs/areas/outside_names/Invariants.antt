-- Each name so far stands outside the area.
use Rattle.mi_undo.specs.Area.{AreOutside}
use Rattle.mi_area_cases.proofs.areas.outside_names.Given as goal

abbrev pub invariant-loop-place : goal.invariant-loop-place
invariant-loop-place l = AreOutside l.names.items
