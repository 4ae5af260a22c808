-- Segments whose records may be carried out over a rollback area. (This project's own.)
use Rattle.std.specs.Prelude.{List}
use Rattle.std.specs.List.{All}
use Rattle.mi_steps.specs.Carried.{AreCarried}
use Rattle.mi_plan.specs.declared.segment.Segment.{Segment}

-- those of each segment
abbrev pub SegmentsCarry : List Segment → Type 0
SegmentsCarry segments = All (λ s. AreCarried s.script) segments
