-- What licenses each answer of carrying out a walk. (The answers are this project's own.)
use Rattle.std.specs.Prelude.{◌≡◌, ◌≢◌, ◌⊎◌, ℕ, ◌≤◌, List, Option, None, Some}
use Rattle.std.specs.List.{Contains}
use Rattle.mi_runner.specs.Records.{States}
use Rattle.mi_base.specs.declared.answers.Cause.{Cause}
use Rattle.mi_base.specs.declared.answers.Cause.TheVariants.{VolumeFault, SourceFault, Table}
use Rattle.mi_base.specs.declared.answers.Fault.TheVariants.{SizeDiffers}
use Rattle.mi_base.specs.declared.answers.Pause.{Pause}
use Rattle.mi_base.specs.declared.answers.Place.{Place}
use Rattle.mi_base.specs.declared.answers.Place.TheVariants.{InRollback, InCommit}
use Rattle.mi_base.specs.declared.answers.Kind.{Kind}
use Rattle.mi_base.specs.declared.answers.Kind.TheVariants.{Done, Refused, Suspended, NoMemory}
use Rattle.mi_model.specs.Causes.{BelowCount}
use Rattle.mi_model.specs.Plans.{Planned}
use Rattle.mi_model.specs.Planning.{kind_by}
use Rattle.mi_carry.specs.declared.stop.Stop.{Stop}
use Rattle.mi_carry.specs.declared.stop.Stop.TheVariants as stop

-- the answers that there are
abbrev pub IsWalkKind : Kind → Type 0
IsWalkKind Done = Unit {0}
IsWalkKind (Refused cause) = Unit {0}
IsWalkKind (Suspended pause) = Unit {0}
IsWalkKind NoMemory = Unit {0}
IsWalkKind other = ⊥

-- The source's file of this key has another length than a record of these segments states. A source that tells what it holds has none such.
pub record Differs (told : Type 0) (segments : List Planned) (file : List ℕ) (stated found : ℕ) : Type 0 where
  pub untold : ¬ told
  pub other : found ≢ stated
  pub segment : Planned
  pub among : Contains segments segment
  pub states : States segment.records file stated

-- a cause that a device gives: `differs` says which lengths differ, `volume_fails` and `source_fails` that this device's count rose
abbrev pub IsMet : (List ℕ → ℕ → ℕ → Type 0) → Type 0 → Type 0 → Cause → Type 0
IsMet differs volume_fails source_fails VolumeFault = volume_fails
IsMet differs volume_fails source_fails SourceFault = source_fails
IsMet differs volume_fails source_fails (Table (SizeDiffers file stated found)) = differs file stated found
IsMet differs volume_fails source_fails other = ⊥

-- a stop that a device gives, or want of memory
abbrev pub IsMetStop : (List ℕ → ℕ → ℕ → Type 0) → Type 0 → Type 0 → Stop → Type 0
IsMetStop differs volume_fails source_fails stop.NoMemory = Unit {0}
IsMetStop differs volume_fails source_fails (stop.Refuse cause) = IsMet differs volume_fails source_fails cause

-- what holds of a suspended run: in the rollback where there was room
abbrev pub WithRoom : Type 0 → Place → Type 0 → Type 0
WithRoom room InRollback fact = room → fact
WithRoom room InCommit fact = fact

-- `room` says that the volume has room for the walk, `refusal` is the walk's own, `begun` is how many actions it begins, and `reached` how many are answered.
module _ (differs : List ℕ → ℕ → ℕ → Type 0) (room source_fails : Type 0) (refusal : Option Cause) (begun reached : ℕ) where
  -- the walk's own refusal behind its last segment, or a cause that a device gives
  abbrev pub MayRefuse : Type 0 → Cause → Type 0
  MayRefuse volume_fails cause = ((refusal ≡ Some cause) × (reached ≡ begun)) ⊎ IsMet differs (room → volume_fails) source_fails cause

  -- why a walk stops before its end, or want of memory
  abbrev pub MayStop : Type 0 → Stop → Type 0
  MayStop volume_fails stop.NoMemory = Unit {0}
  MayStop volume_fails (stop.Refuse cause) = MayRefuse volume_fails cause

  -- why a run was suspended: `fell` says that the volume's count rose before its rollback, or at the commit write
  abbrev pub MetAt : Place → Type 0 → Option Cause → Type 0
  MetAt InRollback fell (Some cause) = MayRefuse fell cause
  MetAt InRollback fell None = ⊥
  MetAt InCommit fell why = (why ≡ None) × fell × (refusal ≡ None)

  -- The counts that a suspended run tells: n is the volume's at the entry, m that at the exit. In the rollback `begun` is that when the
  -- run began to write, and `again` that when it began to go back; in the commit those before the commit write and before the area was opened anew.
  pub record Paused (n m : ℕ) (pause : Pause) : Type 0 where
    pub entry : n ≤ pause.begun
    pub between : pause.begun ≤ pause.again
    pub exit : pause.again ≤ m
    pub rose : WithRoom room pause.place (BelowCount pause.again m)
    pub met : MetAt pause.place (BelowCount pause.begun pause.again) pause.why

  -- each answer comes only for its cause
  abbrev pub Caused : ℕ → ℕ → Kind → Type 0
  Caused n m Done = (refusal ≡ None) × (reached ≡ begun)
  Caused n m (Refused cause) = MayRefuse (BelowCount n m) cause
  Caused n m (Suspended pause) = Paused n m pause
  Caused n m NoMemory = Unit {0}
  Caused n m other = ⊥

-- where no device fails: the walk's own answer with its begun actions, or want of memory
abbrev pub Completes : Option Cause → ℕ → ℕ → Kind → Type 0
Completes refusal begun reached kind = ((kind ≡ kind_by refusal) × (reached ≡ begun)) ⊎ (kind ≡ NoMemory)
