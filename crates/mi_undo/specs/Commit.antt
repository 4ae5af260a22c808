-- The commit write.
use Rattle.std.specs.Prelude.{◌≡◌, ◌≢◌, ℕ, false, true, List, Result, OnOk, IsErrOf}
use Rattle.std.specs.FinMap.{get}
use Rattle.mi_volume.specs.Maps.{Map, HoldsByte}
use Rattle.mi_volume.specs.State.{State, GoesOn, NothingDirty}
use Rattle.mi_undo.specs.Names.{marker}
use Rattle.mi_undo.specs.Notes.{Note}
use Rattle.mi_undo.specs.Stands.{StandsFor, is_one, outside}
use Rattle.mi_undo.specs.Keeps.{IsStanding, EitherFor}
use Rattle.mi_undo.specs.Steps.{OnlyChanges}
use Rattle.mi_undo.specs.Answers.{IfUnknown}
use Rattle.mi_undo.specs.declared.fault.CommitFault.{CommitFault}
use Rattle.mi_undo.specs.declared.fault.CommitFault.TheVariants.{Undoable}

-- The area no longer stands on the disk, and the volume is A.
pub record IsClosed (s : State) (A : Map) : Type 0 where
  pub shut : is_one (get s.held marker) ≡ false
  pub clean : NothingDirty s
  pub others : outside s.held ≡ A

-- Only the marker is between the two: with it open the volume stands for F, and for A without.
pub record IsHalfway (s : State) (F A : Map) : Type 0 where
  pub dirty : (q : List ℕ) → q ≢ marker → ¬ s.dirty q
  pub if_open : (d : Map) → ((q : List ℕ) → q ≢ marker → get d q ≡ get s.held q) → is_one (get d marker) ≡ true → StandsFor F d
  pub others : outside s.held ≡ A
  pub one_byte : HoldsByte s.held marker

-- after the commit write, over an area whose data is on the disk
pub record Closes {T : Type 0} (old new : State) (F : Map) (parts : List (List Note)) (result : Result T CommitFault) : Type 0 where
  -- a crash leaves F or what was held
  pub goes : GoesOn old new (EitherFor F (outside old.held))
  pub only : OnlyChanges marker old new
  pub ok : OnOk result (IsClosed new (outside old.held))
  -- the gate is durably open again
  pub undoable : IsErrOf result Undoable → IsStanding new F parts
  pub unknown : IfUnknown result (λ first second. IsHalfway new F (outside old.held))
