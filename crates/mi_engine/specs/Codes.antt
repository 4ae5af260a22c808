-- The status of an answer. (This project's own.)
use Rattle.std.specs.Prelude.{ℕ, Bool, if◌then◌else◌}
use Rattle.mi_base.specs.declared.answers.Cause.{Cause}
use Rattle.mi_base.specs.declared.answers.Cause.TheVariants.{BadWords, VolumeFault, BadRollback, RecoveryFull, BadImage, SourceFault, Table, UnknownProduct, Launch, ErrorAction, Full}
use Rattle.mi_base.specs.declared.answers.Place.{Place}
use Rattle.mi_base.specs.declared.answers.Place.TheVariants.{InRollback, InCommit}
use Rattle.mi_base.specs.declared.answers.Kind.{Kind}
use Rattle.mi_base.specs.declared.answers.Kind.TheVariants.{Done, Listed, Recovered, Refused, Suspended, NoMemory}
use Rattle.mi_engine.specs.declared.answer.Answer.{Answer}

abbrev pub cause_code : Cause → ℕ
cause_code (BadWords place) = 10
cause_code (Table fault) = 11
cause_code (UnknownProduct code) = 12
cause_code (Launch text) = 13
cause_code (ErrorAction action text) = 14
cause_code (Full need room) = 15
cause_code SourceFault = 16
cause_code VolumeFault = 17
cause_code (BadImage name) = 18
cause_code (BadRollback name) = 19
cause_code (RecoveryFull name) = 20

abbrev pub place_code : Place → ℕ
place_code InRollback = 30
place_code InCommit = 31

abbrev pub kind_code : Bool → Kind → ℕ
kind_code log_lost Done = 0
kind_code log_lost Listed = if log_lost then 41 else 0
kind_code log_lost (Recovered settled) = 0
kind_code log_lost (Refused cause) = cause_code cause
kind_code log_lost (Suspended pause) = place_code pause.place
kind_code log_lost NoMemory = 40

abbrev pub code_of : Answer → ℕ
code_of a = kind_code a.log_lost a.kind
