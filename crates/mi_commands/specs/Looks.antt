-- Steps that only look at the volume.
use Rattle.mi_volume.specs.State.{State, Stays, StaysDirty, Images, GoesOn}

-- The volume is as it was, and a crash since then leaves what it might have left before.
pub record Looks (old new : State) : Type 0 where
  pub stays : Stays old new
  pub still : StaysDirty old new
  pub moments : GoesOn old new (Images old)
