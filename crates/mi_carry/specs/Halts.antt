-- A walk over an open rollback area, by how it ends: all is committed, or it has to be gone back over, or neither is known.
use Rattle.std.specs.Prelude.{◌≡◌, ◌⊎◌, ℕ, ◌≤◌, List, Option, None, Result, Ok, Err, OnOk}
use Rattle.mi_volume.specs.Maps.{Map}
use Rattle.mi_volume.specs.State.{State, GoesOn}
use Rattle.mi_undo.specs.Stands.{StandsFor, outside}
use Rattle.mi_undo.specs.Keeps.{Each}
use Rattle.mi_undo.specs.Area.{Works, CanGoBack}
use Rattle.mi_undo.specs.Answers.{IsFreeUnlessRose}
use Rattle.mi_undo.specs.declared.kept.Kept.{Kept}
use Rattle.mi_undo.specs.declared.fault.CommitFault.{CommitFault}
use Rattle.mi_undo.specs.declared.fault.CommitFault.TheVariants as commit
use Rattle.mi_base.specs.declared.answers.Cause.{Cause}
use Rattle.mi_base.specs.declared.answers.Cause.TheVariants.{VolumeFault}
use Rattle.mi_base.specs.declared.answers.Place.TheVariants.{InCommit}
use Rattle.mi_base.specs.declared.answers.Kind.{Kind}
use Rattle.mi_base.specs.declared.answers.Kind.TheVariants as kind
use Rattle.mi_model.specs.Causes.{BelowCount}
use Rattle.mi_carry.specs.declared.stop.Stop.{Stop}
use Rattle.mi_carry.specs.declared.stop.Stop.TheVariants.{Refuse}
use Rattle.mi_carry.specs.declared.stop.Halt.{Halt}
use Rattle.mi_carry.specs.declared.stop.Halt.TheVariants.{Back, Unknown}
use Rattle.mi_carry.specs.Ends.{StandsAfter}
use Rattle.mi_carry.specs.Causes.{MayStop}

-- ---- parts, before the commit

-- after parts were carried out over F, or a call failed
pub record GoesAlong {T E : Type 0} (old new : State) (kept : Kept) (F : Map) (result : Result T E) : Type 0 where
  pub goes : GoesOn old new (StandsFor F)
  pub works : OnOk result (Works new kept F)
  pub can_go_back : CanGoBack new kept F

-- ---- the commit

-- the halt that a commit gives
abbrev pub halt_of : CommitFault → ℕ → Halt
halt_of commit.Before reached = Back (record { why = Refuse VolumeFault; reached = reached })
halt_of commit.Undoable reached = Back (record { why = Refuse VolumeFault; reached = reached })
halt_of (commit.Unknown first second) reached = Unknown first second reached

-- the answer where it isn't known whether a commit holds
abbrev pub unknown : ℕ → ℕ → Kind
unknown first second = kind.Suspended (record { place = InCommit; why = None; begun = first; again = second })

-- ---- by how it ends

abbrev pub IsVolumeStop : Stop → Type 0
IsVolumeStop (Refuse VolumeFault) = Unit {0}
IsVolumeStop other = ⊥

-- where an image in between may stand for the map after: `rose` says that the count rose
abbrev pub MayHold : {T : Type 0} → Type 0 → Result T Halt → Type 0
MayHold rose (Ok x) = Unit {0}
MayHold rose (Err (Back stopped)) = IsVolumeStop stopped.why × rose
MayHold rose (Err (Unknown first second reached)) = Unit {0}

abbrev pub IfBack : {T : Type 0} → Result T Halt → Type 0 → Type 0
IfBack (Ok x) fact = Unit {0}
IfBack (Err (Back stopped)) fact = fact
IfBack (Err (Unknown first second reached)) fact = Unit {0}

abbrev pub HaltLeaves : {T : Type 0} → Type 0 → State → Map → Map → Option Cause → Result T Halt → Type 0
HaltLeaves told new F A refusal (Ok x) = Each new (StandsAfter told A refusal)
HaltLeaves told new F A refusal (Err (Back stopped)) = Unit {0}
HaltLeaves told new F A refusal (Err (Unknown first second reached)) = Each new (λ d. StandsFor F d ⊎ StandsAfter told A refusal d)

-- after a walk was carried out over an open area of F
pub record Goes {T : Type 0} (told : Type 0) (old new : State) (kept : Kept) (F A : Map) (refusal : Option Cause) (result : Result T Halt) : Type 0 where
  pub goes : GoesOn old new (λ d. StandsFor F d ⊎ (MayHold (BelowCount old.faults new.faults) result × StandsAfter told A refusal d))
  pub leaves : HaltLeaves told new F A refusal result
  pub reads : OnOk result (told → outside new.held ≡ A)
  pub free : OnOk result (IsFreeUnlessRose old new)
  pub back : IfBack result (CanGoBack new kept F)

-- The same over any source: the map after is one map, and B if the source reports its content.
pub record GoesToOne {T : Type 0} (told : Type 0) (old new : State) (kept : Kept) (F B : Map) (refusal : Option Cause) (result : Result T Halt) : Type 0 where
  pub after : Map
  pub made : told → after ≡ B
  pub goes : Goes (Unit {0}) old new kept F after refusal result

-- ---- causes

-- the two counts of a commit of which it isn't known whether it holds
pub record Wavers (n m first second : ℕ) : Type 0 where
  pub entry : n ≤ first
  pub between : first ≤ second
  pub exit : second ≤ m
  pub fell : BelowCount first second
  pub rose : BelowCount second m

-- what licenses each end: n is the volume's count at the entry, m that at the exit
abbrev pub HaltCaused : {T : Type 0} → (List ℕ → ℕ → ℕ → Type 0) → (room source_fails : Type 0) → Option Cause → ℕ → ℕ → ℕ → Result T Halt → Type 0
HaltCaused differs room source_fails refusal begun n m (Ok x) = refusal ≡ None
HaltCaused differs room source_fails refusal begun n m (Err (Back stopped)) = MayStop differs room source_fails refusal begun stopped.reached (BelowCount n m) stopped.why
HaltCaused differs room source_fails refusal begun n m (Err (Unknown first second reached)) = (refusal ≡ None) × Wavers n m first second
