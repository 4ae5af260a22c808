-- The answers of steps that stop a run.
use Rattle.std.specs.Prelude.{◌≡◌, Bool}
use Rattle.mi_text.specs.declared.answers.Settled.TheVariants.{Clean}
use Rattle.mi_undo.specs.declared.fault.UndoError.{UndoError}
use Rattle.mi_undo.specs.declared.fault.UndoError.TheVariants as undo
use Rattle.mi_image.specs.declared.fault.ImageError.{ImageError}
use Rattle.mi_image.specs.declared.fault.ImageError.TheVariants as scan
use Rattle.mi_base.specs.declared.answers.Cause.TheVariants.{VolumeFault, BadRollback, RecoveryFull, BadImage}
use Rattle.mi_base.specs.declared.answers.Kind.{Kind}
use Rattle.mi_base.specs.declared.answers.Kind.TheVariants.{Refused, NoMemory}
use Rattle.mi_commands.specs.declared.reply.Reply.{Reply}
use Rattle.mi_commands.specs.declared.stop.Stop.{Stop}
use Rattle.mi_commands.specs.declared.stop.Stop.TheVariants as stop
use Rattle.mi_commands.specs.Replies.{Replies, WantsMemory}

-- the answer of a run that didn't settle its volume, with its log: what settling would have found isn't known
abbrev pub RepliesUnsettled : Bool → UndoError → Reply → Type 0
RepliesUnsettled says undo.NoMemory r = WantsMemory says r × (r.reached ≡ 0)
RepliesUnsettled says undo.Fault r = Replies says Clean (Refused VolumeFault) r
RepliesUnsettled says (undo.BadRollback name) r = Replies says Clean (Refused (BadRollback name)) r
RepliesUnsettled says (undo.Full name) r = Replies says Clean (Refused (RecoveryFull name)) r

abbrev pub kind_unscanned : ImageError → Kind
kind_unscanned scan.NoMemory = NoMemory
kind_unscanned scan.Fault = Refused VolumeFault
kind_unscanned (scan.BadImage name) = Refused (BadImage name)

abbrev pub kind_stopped : Stop → Kind
kind_stopped stop.NoMemory = NoMemory
kind_stopped (stop.Refuse cause) = Refused cause
