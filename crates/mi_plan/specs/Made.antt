-- What is planned of a walk, as the program keeps it. (InstallExecuteSequence Table.)
use Rattle.std.specs.Prelude.{List, [], ◌∷◌, ◌++◌, Option, Some, None}
use Rattle.mi_text.specs.Maps.{Name}
use Rattle.mi_model.specs.Plans.{Planned}
use Rattle.mi_plan.specs.declared.segment.Segment.{Segment}

-- a segment of the program
abbrev pub as_planned : Segment → Planned
as_planned s = record { records = s.script; reached = s.reached }

-- the begun actions, with a refused one
abbrev pub with_action : List Name → Option Name → List Name
with_action begun None = begun
with_action begun (Some action) = begun ++ action ∷ []
