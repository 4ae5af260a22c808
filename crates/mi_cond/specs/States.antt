-- What has been read so far, in the program.
use Rattle.std.specs.Prelude.{Bool, List}
use Rattle.mi_cond.specs.declared.reader.Stage.{Stage}
use Rattle.mi_cond.specs.declared.reader.Stage.TheVariants as stage
use Rattle.mi_cond.specs.declared.reader.Reader.{Reader}
use Rattle.mi_cond.specs.Brackets.{frame_of, frames_of}
use Rattle.mi_cond.specs.Steps.{FrameOf, StateOf, Wants, HasValue, WantsRight, Has}

abbrev pub at_stage : List (FrameOf Bool) → FrameOf Bool → Stage → StateOf Bool
at_stage below top stage.Wants = Wants below top
at_stage below top (stage.Value v) = HasValue below top v
at_stage below top (stage.Compares l c) = WantsRight below top l c
at_stage below top (stage.Has b) = Has below top.rows b

abbrev pub state_of : Reader → StateOf Bool
state_of r = at_stage (frames_of r.below.items) (frame_of r.top) r.stage
