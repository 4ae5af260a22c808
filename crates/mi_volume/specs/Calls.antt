-- What each call of a volume leaves.
use Rattle.std.specs.Prelude.{◌≡◌, ℕ, List, [], ◌∷◌, length, max, Result, OnOk, OnErr, IsErrOf}
use Rattle.std.specs.FinMap.{get, insert, remove}
use Rattle.mi_volume.specs.Maps.{size, bytes_or_none, Fits, Exceeds, OthersStay, HoldsByte, HoldsAtMost}
use Rattle.mi_volume.specs.State.{State, OnlyDirties, NothingDirty, Stays, StaysDirty}
use Rattle.mi_volume.specs.declared.volume.PutFault.{PutFault}
use Rattle.mi_volume.specs.declared.volume.PutFault.TheVariants.{NoMemory, Failed, Full}

-- after a call that gives this name these bytes
pub record Writes {T : Type 0} (name bytes : List ℕ) (old new : State) (result : Result T PutFault) : Type 0 where
  pub ok : OnOk result (new.held ≡ insert old.held name bytes)
  pub others : OthersStay name old.held new.held
  pub dirty : OnlyDirties name old new
  pub still : StaysDirty old new
  pub no_memory : IsErrOf result NoMemory → Stays old new
  pub full : IsErrOf result Full → Stays old new
  pub failed : IsErrOf result Failed → HoldsAtMost new.held name (max (length (bytes_or_none (get old.held name))) (length bytes))
  -- `Full` comes only where the size after the call would pass the capacity, and `Ok` only where it fits: want of memory and a fault of the device may come first
  pub exceeds : IsErrOf result Full → Exceeds old.capacity (size (insert old.held name bytes))
  pub fits : OnOk result (Fits old.capacity (size (insert old.held name bytes)))

pub record Removes {T E : Type 0} (name : List ℕ) (old new : State) (result : Result T E) : Type 0 where
  pub ok : OnOk result (new.held ≡ remove old.held name)
  pub others : OthersStay name old.held new.held
  pub dirty : OnlyDirties name old new
  pub still : StaysDirty old new
  pub failed : OnErr result (HoldsAtMost new.held name (length (bytes_or_none (get old.held name))))

pub record Marks {T E : Type 0} (name : List ℕ) (byte : ℕ) (old new : State) (result : Result T E) : Type 0 where
  pub ok : OnOk result (new.held ≡ insert old.held name (byte ∷ []))
  pub others : OthersStay name old.held new.held
  pub dirty : OnlyDirties name old new
  pub still : StaysDirty old new
  -- after a failure too
  pub one_byte : HoldsByte new.held name

pub record Syncs {T E : Type 0} (old new : State) (result : Result T E) : Type 0 where
  pub ok : OnOk result (NothingDirty new)
  -- what is held is what a crash leaves then, and that fits
  pub fits : OnOk result (Fits new.capacity (size new.held))
  pub stays : Stays old new
  pub failed : OnErr result (StaysDirty old new)
