-- What the calls of an area leave, by their answers.
use Rattle.std.specs.Prelude.{◌≡◌, ◌⊎◌, ℕ, ◌-◌, ◌^◌, ◌≤◌, ◌<◌, true, List, Result, Ok, Err, OnOk, OnErr, IsErrOf}
use Rattle.std.specs.FinMap.{get}
use Rattle.mi_volume.specs.Maps.{Map}
use Rattle.mi_volume.specs.State.{State, GoesOn, Rose}
use Rattle.mi_undo.specs.Names.{marker}
use Rattle.mi_undo.specs.Stands.{StandsFor, is_one, outside}
use Rattle.mi_undo.specs.Keeps.{Each, EitherFor, IsFree}
use Rattle.mi_undo.specs.Area.{Works, CanGoBack}
use Rattle.mi_undo.specs.declared.kept.Kept.{Kept}
use Rattle.mi_undo.specs.declared.fault.CommitFault.{CommitFault}
use Rattle.mi_undo.specs.declared.fault.CommitFault.TheVariants.{Before, Undoable, Unknown}
use Rattle.mi_undo.specs.declared.fault.UndoError.{UndoError}
use Rattle.mi_undo.specs.declared.fault.UndoError.TheVariants.{NoMemory, Fault, BadRollback, Full}

-- no name inside the area is held and nothing is dirty, or the volume has failed in between
abbrev pub IsFreeUnlessRose : State → State → Type 0
IsFreeUnlessRose old new = IsFree new ⊎ Rose old new

-- after an area was begun
pub record Opens (old new : State) (kept : Kept) : Type 0 where
  pub goes : GoesOn old new (StandsFor old.held)
  pub works : Works new kept old.held
  pub outside : outside new.held ≡ outside old.held

-- after none was begun
pub record Declines (old new : State) : Type 0 where
  pub goes : GoesOn old new (StandsFor old.held)
  pub leaves : Each new (StandsFor old.held)
  pub outside : outside new.held ≡ outside old.held
  pub free : IsFreeUnlessRose old new

-- after a call that noted names
pub record Notes {T E : Type 0} (old new : State) (kept : Kept) (F : Map) (result : Result T E) : Type 0 where
  pub goes : GoesOn old new (StandsFor F)
  pub works : OnOk result (Works new kept F)
  pub can_go_back : CanGoBack new kept F
  pub outside : outside new.held ≡ outside old.held

-- after a call that changed a noted name, or failed
pub record Changes (old new : State) (kept : Kept) (F : Map) : Type 0 where
  pub goes : GoesOn old new (StandsFor F)
  pub works : Works new kept F

-- what the maps stand for that a commit leaves in between: for A only from the commit write on
abbrev pub InCommit : {T : Type 0} → Map → Map → Result T CommitFault → Map → Type 0
InCommit F A (Ok x) = EitherFor F A
InCommit F A (Err Before) = StandsFor F
InCommit F A (Err Undoable) = EitherFor F A
InCommit F A (Err (Unknown first second)) = EitherFor F A

-- the two counts of a commit of which it isn't known whether it holds
abbrev pub IfUnknown : {T : Type 0} → Result T CommitFault → (ℕ → ℕ → Type 0) → Type 0
IfUnknown (Ok x) P = Unit {0}
IfUnknown (Err Before) P = Unit {0}
IfUnknown (Err Undoable) P = Unit {0}
IfUnknown (Err (Unknown first second)) P = P first second

-- after a commit of what is held, A besides the area, over F
pub record Commits {T : Type 0} (old new : State) (kept : Kept) (F A : Map) (result : Result T CommitFault) : Type 0 where
  pub goes : GoesOn old new (InCommit F A result)
  pub outside : outside new.held ≡ A
  pub leaves : OnOk result (Each new (StandsFor A))
  pub free : OnOk result (IsFreeUnlessRose old new)
  pub before : IsErrOf result Before → CanGoBack new kept F
  pub undoable : IsErrOf result Undoable → CanGoBack new kept F
  pub unknown : IfUnknown result (λ first second. Each new (EitherFor F A))

-- the first count isn't below that at the entry, the second is above it, and the count at the exit is above the second
pub record CountsRise (old new : State) (first second : ℕ) : Type 0 where
  pub entry : old.faults ≤ first
  pub between : first ≤ second
  pub exit : second ≤ new.faults
  pub first_rose : first < 2 ^ 64 - 1 → first < second
  pub second_rose : second < 2 ^ 64 - 1 → second < new.faults

-- after going back to F
pub record GoesBack {T E : Type 0} (old new : State) (F : Map) (result : Result T E) : Type 0 where
  pub goes : GoesOn old new (StandsFor F)
  pub leaves : Each new (StandsFor F)
  pub outside : OnOk result (outside new.held ≡ F)
  pub free : OnOk result (IsFreeUnlessRose old new)
  -- after an error the old bytes aren't all on the disk, and the marker is open still
  pub marked : OnErr result (is_one (get new.held marker) ≡ true)

abbrev pub IfBad : {A : Type 0} → Result A UndoError → (List ℕ → Type 0) → Type 0
IfBad (Ok x) P = Unit {0}
IfBad (Err NoMemory) P = Unit {0}
IfBad (Err Fault) P = Unit {0}
IfBad (Err (BadRollback name)) P = P name
IfBad (Err (Full name)) P = Unit {0}

abbrev pub IfFull : {A : Type 0} → Result A UndoError → (List ℕ → Type 0) → Type 0
IfFull (Ok x) P = Unit {0}
IfFull (Err NoMemory) P = Unit {0}
IfFull (Err Fault) P = Unit {0}
IfFull (Err (BadRollback name)) P = Unit {0}
IfFull (Err (Full name)) P = P name
