-- How many actions are answered as begun, by where a walk stops. (The answers are this project's own.)
use Rattle.std.specs.Prelude.{◌≡◌, ◌⊎◌, ℕ, ◌-◌, List, length, map, slice_get, Option, None, Some, IsSome, Result, Ok, Err}
use Rattle.std.specs.Option.{option_map_or}
use Rattle.std.specs.List.{Contains}
use Rattle.mi_runner.specs.Records.{States}
use Rattle.mi_base.specs.declared.answers.Cause.{Cause}
use Rattle.mi_base.specs.declared.answers.Cause.TheVariants.{Table}
use Rattle.mi_base.specs.declared.answers.Fault.TheVariants.{SizeDiffers}
use Rattle.mi_base.specs.declared.answers.Place.{Place}
use Rattle.mi_base.specs.declared.answers.Place.TheVariants.{InRollback, InCommit}
use Rattle.mi_base.specs.declared.answers.Kind.{Kind}
use Rattle.mi_base.specs.declared.answers.Kind.TheVariants.{Done, Refused, Suspended, NoMemory}
use Rattle.mi_model.specs.Plans.{Planned}
use Rattle.mi_carry.specs.declared.stop.Stop.{Stop}
use Rattle.mi_carry.specs.declared.stop.Stop.TheVariants as stop
use Rattle.mi_carry.specs.declared.stop.Halt.{Halt}
use Rattle.mi_carry.specs.declared.stop.Halt.TheVariants.{Back, Unknown}

-- how many actions are begun at the end of the segment at this place, and all of the walk where there is none
abbrev pub at_end_of : ℕ → List Planned → ℕ → ℕ
at_end_of begun segments k = option_map_or (λ (s : Planned). s.reached) (slice_get segments k) begun

abbrev pub first_reached : ℕ → List Planned → ℕ
first_reached begun segments = at_end_of begun segments 0

abbrev pub last_reached : ℕ → List Planned → ℕ
last_reached begun segments = at_end_of begun segments (length segments - 1)

-- those that are begun at the end of one of the segments
abbrev pub AtOne : List Planned → ℕ → Type 0
AtOne segments reached = Contains (map (λ (s : Planned). s.reached) segments) reached

-- and of one that states the length that differs, where it is that
abbrev pub AtFault : List Planned → ℕ → Cause → Type 0
AtFault segments reached (Table (SizeDiffers file stated found)) = (s : Planned) × Contains segments s × States s.records file stated × (reached ≡ s.reached)
AtFault segments reached other = AtOne segments reached

abbrev pub AtMetStop : List Planned → ℕ → Stop → Type 0
AtMetStop segments reached stop.NoMemory = AtOne segments reached
AtMetStop segments reached (stop.Refuse cause) = AtFault segments reached cause

module _ (refusal : Option Cause) (begun : ℕ) (segments : List Planned) (reached : ℕ) where
  -- all actions behind the walk's own refusal, or those at the end of the segment at hand
  abbrev pub AtRefusal : Cause → Type 0
  AtRefusal cause = ((refusal ≡ Some cause) × (reached ≡ begun)) ⊎ AtFault segments reached cause

  abbrev pub AtStop : Stop → Type 0
  AtStop stop.NoMemory = AtOne segments reached
  AtStop (stop.Refuse cause) = AtRefusal cause

  -- those at the end of the last segment where it isn't known whether the commit holds
  abbrev pub AtPause : Place → Option Cause → Type 0
  AtPause InRollback (Some cause) = AtRefusal cause
  AtPause InRollback None = ⊥
  AtPause InCommit why = reached ≡ last_reached begun segments

  -- by each answer
  abbrev pub IsReached : Kind → Type 0
  IsReached Done = reached ≡ begun
  IsReached (Refused cause) = AtRefusal cause
  IsReached (Suspended pause) = AtPause pause.place pause.why
  IsReached NoMemory = (IsSome refusal × (reached ≡ begun)) ⊎ AtOne segments reached
  IsReached other = ⊥

-- where the commit write has begun: all is done, or those at the end of the last segment are answered
abbrev pub HasBegunCommit : ℕ → List Planned → ℕ → Kind → Type 0
HasBegunCommit begun segments reached kind = (kind ≡ Done) ⊎ (reached ≡ last_reached begun segments)

-- the same of a walk over an open area
abbrev pub HaltReached : {T : Type 0} → Option Cause → ℕ → List Planned → Result T Halt → Type 0
HaltReached refusal begun segments (Ok x) = Unit {0}
HaltReached refusal begun segments (Err (Back stopped)) = AtStop refusal begun segments stopped.reached stopped.why
HaltReached refusal begun segments (Err (Unknown first second reached)) = reached ≡ last_reached begun segments

abbrev pub HaltHasBegunCommit : {T : Type 0} → ℕ → List Planned → Result T Halt → Type 0
HaltHasBegunCommit begun segments (Ok x) = Unit {0}
HaltHasBegunCommit begun segments (Err (Back stopped)) = stopped.reached ≡ last_reached begun segments
HaltHasBegunCommit begun segments (Err (Unknown first second reached)) = reached ≡ last_reached begun segments
