-- What a run leaves of the volume, by its answer: its crash images, and what reads give. (Rollback Installation; the volume is this project's own.)
use Rattle.std.specs.Prelude.{◌≡◌, ◌⊎◌, false, List, Option, Some, None, Ok}
use Rattle.std.specs.FinMap.{get}
use Rattle.mi_text.specs.Maps.{Name}
use Rattle.mi_volume.specs.Maps.{Map}
use Rattle.mi_volume.specs.State.{State}
use Rattle.mi_undo.specs.Names.{is_inside}
use Rattle.mi_undo.specs.Notes.{Note, note_of}
use Rattle.mi_undo.specs.Stands.{StandsFor, noted, outside}
use Rattle.mi_undo.specs.Keeps.{IsFree}
use Rattle.mi_undo.specs.Answers.{IsFreeUnlessRose}
use Rattle.mi_base.specs.Machine.{Machine, volume_of}
use Rattle.mi_base.specs.declared.answers.Cause.{Cause}
use Rattle.mi_base.specs.declared.answers.Cause.TheVariants.{BadWords, VolumeFault, BadRollback, RecoveryFull}
use Rattle.mi_base.specs.declared.answers.Kind.{Kind}
use Rattle.mi_base.specs.declared.answers.Kind.TheVariants.{Done, Listed, Recovered, Refused, Suspended, NoMemory}
use Rattle.mi_base.specs.declared.answers.Place.{Place}
use Rattle.mi_base.specs.declared.answers.Place.TheVariants.{InRollback, InCommit}
use Rattle.mi_model.specs.PackageOutcome.{Outcome}
use Rattle.mi_model.specs.PackageOutcome as o

-- ---- crash images, where what is handed in stands for the former map F

-- it stands for the map of the machine after
abbrev pub StandsAfter : Outcome → Map → Type 0
StandsAfter out d = (m : Machine) × (out.end ≡ o.Done m) × StandsFor (volume_of m) d

abbrev pub IsVolumeFault : Option Cause → Type 0
IsVolumeFault (Some VolumeFault) = Unit {0}
IsVolumeFault other = ⊥

-- the answers with which an image may stand for the map after; `rose` says that the count rose in the call
abbrev pub PauseMay : Place → Option Cause → Type 0
PauseMay InCommit why = Unit {0}
PauseMay InRollback why = IsVolumeFault why

abbrev pub MayCommit : Type 0 → Kind → Type 0
MayCommit rose Done = Unit {0}
MayCommit rose Listed = ⊥
MayCommit rose (Recovered settled) = ⊥
MayCommit rose (Refused cause) = IsVolumeFault (Some cause)
MayCommit rose (Suspended pause) = PauseMay pause.place pause.why
MayCommit rose NoMemory = rose

-- What an image since the run began stands for: the former map; or that of the machine after, where the outcome has one and the
-- answer allows it.
abbrev pub MayStand : Type 0 → Map → Outcome → Type 0 → Kind → Map → Type 0
MayStand told F out rose kind d = StandsFor F d ⊎ (MayCommit rose kind × (told → StandsAfter out d))

abbrev pub AtPause : Type 0 → Map → Outcome → Place → Map → Type 0
AtPause told F out InRollback d = StandsFor F d
AtPause told F out InCommit d = StandsFor F d ⊎ (told → StandsAfter out d)

-- what an image at its end stands for
abbrev pub AtExit : Type 0 → Map → Outcome → Kind → Map → Type 0
AtExit told F out Done d = told → StandsAfter out d
AtExit told F out (Suspended pause) d = AtPause told F out pause.place d
AtExit told F out other d = StandsFor F d

-- ---- reads

-- each name that is neither inside the rollback area nor noted in d0 is as in F
abbrev pub UnnotedStay : Map → Map → Map → Type 0
UnnotedStay d0 F h = (ns : List Note) → noted d0 ≡ Ok ns → (q : Name) → is_inside q ≡ false → note_of ns q ≡ None → get h q ≡ get F q

-- What reads give after a refusal. Settling may have stopped with noted names away; of refused words and of an area
-- that is not read other clauses say that the volume is as it was handed in.
abbrev pub RefusedReads : Map → Map → Cause → Map → Type 0
RefusedReads d0 F (BadWords place) h = Unit {0}
RefusedReads d0 F (BadRollback name) h = Unit {0}
RefusedReads d0 F (RecoveryFull name) h = Unit {0}
RefusedReads d0 F VolumeFault h = UnnotedStay d0 F h
RefusedReads d0 F other h = outside h ≡ F

-- what reads give after a run over d0, which stands for F
abbrev pub ReadsAfter : Type 0 → Map → Map → Outcome → Kind → Map → Type 0
ReadsAfter told d0 F out Done h = told → (m : Machine) × (out.end ≡ o.Done m) × (outside h ≡ volume_of m)
ReadsAfter told d0 F out Listed h = outside h ≡ F
ReadsAfter told d0 F out (Recovered settled) h = outside h ≡ F
ReadsAfter told d0 F out (Refused cause) h = RefusedReads d0 F cause h
ReadsAfter told d0 F out (Suspended pause) h = Unit {0}
ReadsAfter told d0 F out NoMemory h = Unit {0}

abbrev pub RefusalCleans : State → State → Cause → Type 0
RefusalCleans old new (BadWords place) = Unit {0}
RefusalCleans old new (BadRollback name) = Unit {0}
RefusalCleans old new (RecoveryFull name) = Unit {0}
RefusalCleans old new VolumeFault = Unit {0}
RefusalCleans old new other = IsFreeUnlessRose old new

-- behind which answers no name inside the rollback area is held and nothing is dirty
abbrev pub Cleans : State → State → Kind → Type 0
Cleans old new Done = IsFreeUnlessRose old new
Cleans old new Listed = IsFree new
Cleans old new (Recovered settled) = IsFree new
Cleans old new (Refused cause) = RefusalCleans old new cause
Cleans old new (Suspended pause) = Unit {0}
Cleans old new NoMemory = Unit {0}
