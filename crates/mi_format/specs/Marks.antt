-- The program's stack of open marks, whose last is the innermost.
use Rattle.std.specs.Prelude.{List, map, reverse}
use Rattle.mi_format.specs.declared.part.Kept.{Kept}
use Rattle.mi_format.specs.declared.scan.OpenMark.{OpenMark}
use Rattle.mi_format.specs.declared.scan.Scan.{Scan}
use Rattle.mi_format.specs.Scan.{Frame, State}

abbrev pub frame_of : OpenMark → Frame Kept
frame_of m = record { kind = m.kind; before = m.before }

abbrev pub frames_of : List OpenMark → List (Frame Kept)
frames_of marks = map frame_of (reverse marks)

abbrev pub state_of : Scan → State Kept
state_of s = record { frames = frames_of s.marks.items; current = s.current }
