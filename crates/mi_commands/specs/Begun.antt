-- How many actions an answer says were begun, also if a count rose. (InstallExecuteSequence Table; InstallInitialize Action; InstallExecute
-- Action; InstallFinalize Action. The answers are this project's own.)
use Rattle.std.specs.Prelude.{◌≡◌, ◌⊎◌, ℕ, ◌+◌, ◌≤◌, true, List, ◌∷◌, ◌++◌, length, Option, None, Some}
use Rattle.mi_text.specs.Maps.{Name}
use Rattle.mi_base.specs.declared.answers.Cause.{Cause}
use Rattle.mi_base.specs.declared.answers.Cause.TheVariants.{VolumeFault, SourceFault}
use Rattle.mi_base.specs.declared.answers.Place.{Place}
use Rattle.mi_base.specs.declared.answers.Place.TheVariants.{InRollback, InCommit}
use Rattle.mi_base.specs.declared.answers.Kind.{Kind}
use Rattle.mi_base.specs.declared.answers.Kind.TheVariants.{Done, Listed, Recovered, Refused, Suspended, NoMemory}
use Rattle.mi_model.specs.Sequence.{is_inside}
use Rattle.mi_model.specs.Steps.{ends_segment}
use Rattle.mi_model.specs.Causes.{IsRefused}
use Rattle.mi_model.specs.PackageOutcome.{Outcome}

-- So many of the begun actions are those at the end of a segment: the last of them ends one, after InstallInitialize and not after InstallFinalize.
pub record IsEnd (begun : List Name) (n : ℕ) : Type 0 where
  pub before : List Name
  pub action : Name
  pub later : List Name
  pub is : begun ≡ before ++ action ∷ later
  pub inside : is_inside before ≡ true
  pub ends : ends_segment action ≡ true
  pub counts : n ≡ length before + 1

-- and no segment ends later
pub record IsLastEnd (begun : List Name) (n : ℕ) : Type 0 where
  pub is : IsEnd begun n
  pub last : (m : ℕ) → IsEnd begun m → m ≤ n

module _ (out : Outcome) (reached : ℕ) where
  -- all after a refusal that is the outcome's own, and those at the end of a segment after a fault of a device
  abbrev pub AtCause : Cause → Type 0
  AtCause VolumeFault = IsEnd out.begun reached
  AtCause SourceFault = IsEnd out.begun reached
  AtCause other = reached ≡ out.reached

  -- those at the end of the last segment if it isn't known whether the commit holds
  abbrev pub AtPause : Place → Option Cause → Type 0
  AtPause InRollback (Some cause) = AtCause cause
  AtPause InRollback None = ⊥
  AtPause InCommit why = IsLastEnd out.begun reached

  -- none if a device fails before the first write
  abbrev pub AtRefusal : Cause → Type 0
  AtRefusal VolumeFault = (reached ≡ 0) ⊎ IsEnd out.begun reached
  AtRefusal SourceFault = (reached ≡ 0) ⊎ IsEnd out.begun reached
  AtRefusal other = reached ≡ out.reached

  -- the outcome is a refusal, and all that it begins are begun
  abbrev pub AtOwn : Type 0
  AtOwn = (cause : Cause) × IsRefused out cause × (reached ≡ out.reached)

  -- by each answer
  abbrev pub HasBegun : Kind → Type 0
  HasBegun Done = reached ≡ out.reached
  HasBegun Listed = reached ≡ 0
  HasBegun (Recovered settled) = reached ≡ 0
  HasBegun (Refused cause) = AtRefusal cause
  HasBegun (Suspended pause) = AtPause pause.place pause.why
  HasBegun NoMemory = (reached ≡ 0) ⊎ IsEnd out.begun reached ⊎ AtOwn
