-- Calls of a volume that go together.
use Rattle.std.specs.Prelude.{◌≡◌, ◌⊎◌, List, ℕ, ◌+◌, ◌≤◌, max, [], ◌∷◌, ◌++◌, length, Result, OnOk, IsErrOf}
use Rattle.std.specs.FinMap.{get, insert}
use Rattle.mi_volume.specs.Maps.{OthersStay, HoldsByte, HoldsAtMost, Fits, Exceeds, size, bytes_or_none}
use Rattle.mi_volume.specs.State.{State, GoesOn, ImagesOf, OnlyDirties, NothingDirty}
use Rattle.mi_undo.specs.declared.fault.OpFault.{OpFault}
use Rattle.mi_undo.specs.declared.fault.OpFault.TheVariants.{Full}

-- what is held fits the capacity
abbrev pub IsWithin : State → Type 0
IsWithin s = Fits s.capacity (size s.held)

-- No other name than this has changed, and a crash in between has left no other changed.
pub record OnlyChanges (name : List ℕ) (old new : State) : Type 0 where
  pub goes : GoesOn old new (ImagesOf name old)
  pub others : OthersStay name old.held new.held
  pub dirty : OnlyDirties name old new

-- No other names than these have changed, and a crash in between has left no others changed.
pub record Touches (names : List ℕ → Type 0) (old new : State) : Type 0 where
  pub goes : GoesOn old new (λ d. (q : List ℕ) → ¬ (old.dirty q ⊎ names q) → get d q ≡ get old.held q)
  pub others : (q : List ℕ) → ¬ names q → get new.held q ≡ get old.held q
  pub dirty : (q : List ℕ) → ¬ names q → new.dirty q → old.dirty q

-- The name is given these bytes, and all is on the disk.
pub record Seals {T E : Type 0} (name bytes : List ℕ) (old new : State) (result : Result T E) : Type 0 where
  pub only : OnlyChanges name old new
  pub ok : OnOk result ((new.held ≡ insert old.held name bytes) × NothingDirty new)

-- The one byte of the name is replaced, and all is on the disk.
pub record SealsByte {T E : Type 0} (name : List ℕ) (byte : ℕ) (old new : State) (result : Result T E) : Type 0 where
  pub only : OnlyChanges name old new
  pub ok : OnOk result ((new.held ≡ insert old.held name (byte ∷ [])) × NothingDirty new)
  pub one_byte : HoldsByte new.held name

-- the name holds no more than the longer of what it held and so many bytes
abbrev pub HoldsNoMore : List ℕ → ℕ → State → State → Type 0
HoldsNoMore name n old new = HoldsAtMost new.held name (max (length (bytes_or_none (get old.held name))) n)

-- after a call that adds so many bytes, or fewer where it fails: they fit, or it is Full where they pass the capacity
pub record AddsBytes {T : Type 0} (n : ℕ) (old new : State) (result : Result T OpFault) : Type 0 where
  pub ok : OnOk result (size new.held ≡ size old.held + n)
  pub most : size new.held ≤ size old.held + n
  pub fits : OnOk result (Fits old.capacity (size old.held + n))
  pub full : IsErrOf result Full → Exceeds old.capacity (size old.held + n)

-- Behind what the name held these bytes are added.
pub record Adds {T : Type 0} (name before bytes : List ℕ) (old new : State) (result : Result T OpFault) : Type 0 where
  pub only : OnlyChanges name old new
  pub ok : OnOk result (new.held ≡ insert old.held name (before ++ bytes))
  pub most : HoldsNoMore name (length (before ++ bytes)) old new
  pub full : IsErrOf result Full → Exceeds old.capacity (size (insert old.held name (before ++ bytes)))
