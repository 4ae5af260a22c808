-- Going back after a stop.
use Rattle.std.specs.Prelude.{◌≡◌, ◌⊎◌, ℕ, Some, Result, Ok, Err}
use Rattle.mi_volume.specs.Maps.{Map}
use Rattle.mi_volume.specs.State.{State, GoesOn}
use Rattle.mi_undo.specs.Stands.{StandsFor, outside}
use Rattle.mi_undo.specs.Keeps.{Each}
use Rattle.mi_undo.specs.Answers.{IsFreeUnlessRose}
use Rattle.mi_undo.specs.declared.fault.BackFault.{BackFault}
use Rattle.mi_undo.specs.declared.fault.BackFault.TheVariants as back
use Rattle.mi_base.specs.declared.answers.Place.TheVariants.{InRollback}
use Rattle.mi_base.specs.declared.answers.Kind.{Kind}
use Rattle.mi_base.specs.declared.answers.Kind.TheVariants as kind
use Rattle.mi_model.specs.Causes.{BelowCount}
use Rattle.mi_carry.specs.declared.stop.Stop.{Stop}
use Rattle.mi_carry.specs.declared.stop.Stop.TheVariants.{NoMemory, Refuse}

-- the answer to a stop where nothing is left to go back from
abbrev pub gone : Stop → Kind
gone NoMemory = kind.NoMemory
gone (Refuse cause) = kind.Refused cause

-- the answer to a stop where going back failed: the volume's counts when the run began to write and when it began to go back
abbrev pub stuck : Stop → ℕ → ℕ → Kind
stuck NoMemory first again = kind.NoMemory
stuck (Refuse cause) first again = kind.Suspended (record { place = InRollback; why = Some cause; begun = first; again = again })

-- the answer to a stop after going back
abbrev pub fell : {T : Type 0} → Result T BackFault → Stop → ℕ → ℕ → Kind
fell (Ok x) why first again = gone why
fell (Err back.NoMemory) why first again = kind.NoMemory
fell (Err back.Fault) why first again = stuck why first again
fell (Err back.Full) why first again = stuck why first again

-- what a stop is answered by: where going back failed, the count rose then, if there is room for it
abbrev pub AnswersStop : Type 0 → Stop → ℕ → ℕ → ℕ → Kind → Type 0
AnswersStop room why first again last k = (k ≡ gone why) ⊎ (k ≡ kind.NoMemory) ⊎ ((k ≡ stuck why first again) × (room → BelowCount again last))

-- what reads outside the area give after going back
abbrev pub ReadsBack : Map → Kind → Map → Type 0
ReadsBack F (kind.Refused cause) m = m ≡ F
ReadsBack F other m = Unit {0}

abbrev pub CleansBack : State → State → Kind → Type 0
CleansBack old new (kind.Refused cause) = IsFreeUnlessRose old new
CleansBack old new other = Unit {0}

-- after going back to F
pub record Falls (old new : State) (F : Map) (k : Kind) : Type 0 where
  pub goes : GoesOn old new (StandsFor F)
  pub leaves : Each new (StandsFor F)
  pub reads : ReadsBack F k (outside new.held)
  pub cleans : CleansBack old new k
