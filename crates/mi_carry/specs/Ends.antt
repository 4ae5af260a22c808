-- What carrying out a walk leaves of the volume, by its answer: F is the former map, A the map after the segments, `refusal` the walk's own, and `told`
-- says that the source tells what it holds. (Rollback Installation; the volume and its images are this project's own.)
use Rattle.std.specs.Prelude.{◌≡◌, ◌⊎◌, Option, None}
use Rattle.mi_volume.specs.Maps.{Map}
use Rattle.mi_volume.specs.State.{State, GoesOn}
use Rattle.mi_undo.specs.Stands.{StandsFor, outside}
use Rattle.mi_undo.specs.Keeps.{Each}
use Rattle.mi_base.specs.declared.answers.Cause.{Cause}
use Rattle.mi_base.specs.declared.answers.Place.{Place}
use Rattle.mi_base.specs.declared.answers.Place.TheVariants.{InRollback, InCommit}
use Rattle.mi_base.specs.declared.answers.Kind.{Kind}
use Rattle.mi_base.specs.declared.answers.Kind.TheVariants.{Done, Refused, Suspended}
use Rattle.mi_model.specs.Causes.{BelowCount}
use Rattle.mi_model.specs.Leaves.{MayCommit, Cleans}

-- it stands for the map after, and the walk went to its end
abbrev pub StandsAfter : Type 0 → Map → Option Cause → Map → Type 0
StandsAfter told A refusal d = (refusal ≡ None) × (told → StandsFor A d)

-- what an image at a moment since the run began stands for; `rose` says that the count rose in the call
abbrev pub MayStand : Type 0 → Map → Map → Option Cause → Type 0 → Kind → Map → Type 0
MayStand told F A refusal rose kind d = StandsFor F d ⊎ (MayCommit rose kind × StandsAfter told A refusal d)

abbrev pub AtPause : Type 0 → Map → Map → Option Cause → Place → Map → Type 0
AtPause told F A refusal InRollback d = StandsFor F d
AtPause told F A refusal InCommit d = StandsFor F d ⊎ StandsAfter told A refusal d

-- what an image at its end stands for
abbrev pub AtExit : Type 0 → Map → Map → Option Cause → Kind → Map → Type 0
AtExit told F A refusal Done d = StandsAfter told A refusal d
AtExit told F A refusal (Suspended pause) d = AtPause told F A refusal pause.place d
AtExit told F A refusal other d = StandsFor F d

-- what reads outside the rollback area give at its end
abbrev pub Reads : Type 0 → Map → Map → Kind → Map → Type 0
Reads told F A Done m = told → m ≡ A
Reads told F A (Refused cause) m = m ≡ F
Reads told F A other m = Unit {0}

-- all of it
pub record Ends (told : Type 0) (old new : State) (F A : Map) (refusal : Option Cause) (kind : Kind) : Type 0 where
  -- each image at a moment since it began
  pub stops : GoesOn old new (MayStand told F A refusal (BelowCount old.faults new.faults) kind)
  -- each image at its end
  pub leaves : Each new (AtExit told F A refusal kind)
  -- what reads outside the area give at its end
  pub reads : Reads told F A kind (outside new.held)
  -- behind which answers no name inside the area is held and nothing is dirty
  pub cleans : Cleans old new kind

-- The same over any source: the map after is one map, and B if the source reports its content.
pub record EndsAtOne (told : Type 0) (old new : State) (F B : Map) (refusal : Option Cause) (kind : Kind) : Type 0 where
  pub after : Map
  pub made : told → after ≡ B
  pub ends : Ends (Unit {0}) old new F after refusal kind
