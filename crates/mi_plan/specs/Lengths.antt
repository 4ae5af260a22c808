-- What the records of a walk copy is in the source. (File Table.)
use Rattle.std.specs.Prelude.{List, Bool, true, false}
use Rattle.std.specs.List.{All}
use Rattle.mi_source.specs.Paths.{Files}
use Rattle.mi_script.specs.declared.rec.Rec.{Rec}
use Rattle.mi_script.specs.declared.rec.Rec.TheVariants.{Put, Drop, Copy, Dup}
use Rattle.mi_runner.specs.Records.{HasLength}
use Rattle.mi_plan.specs.declared.segment.Segment.{Segment}
use Rattle.mi_plan.specs.declared.turn.Turn.{Turn}
use Rattle.mi_plan.specs.declared.turn.Turn.TheVariants.{Went, Ended}
use Rattle.mi_plan.specs.declared.work.Work.{Work}

-- a record copies a file of the source
abbrev pub is_copy : Rec → Bool
is_copy (Put name bytes) = false
is_copy (Drop name) = false
is_copy (Copy name head file path n) = true
is_copy (Dup name head from) = false

-- each record that copies a file of the source states how many bytes that has
abbrev pub HaveLength : Files → List Rec → Type 0
HaveLength files recs = All (HasLength files) recs

abbrev pub SegmentsHave : Files → List Segment → Type 0
SegmentsHave files segments = All (λ s. HaveLength files s.script) segments

-- of what is planned so far: the segments that have ended, and while the walk goes on the open script too
abbrev pub HaveLengths : Files → Work → Turn → Type 0
HaveLengths files k Went = HaveLength files k.world.plan.script × SegmentsHave files k.segments.items
HaveLengths files k (Ended why) = SegmentsHave files k.segments.items
