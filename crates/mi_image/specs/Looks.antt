-- What calls leave that only look at a volume (this project's own).
use Rattle.mi_volume.specs.State.{State, Images, GoesOn, Stays, StaysDirty}

-- what is held and dirty stays, and a crash at any moment leaves what it might have left before
pub record OnlyLooks (old new : State) : Type 0 where
  pub stays : Stays old new
  pub still : StaysDirty old new
  pub moments : GoesOn old new (Images old)
