-- Beginning an area, and how far one has come.
use Rattle.std.specs.Prelude.{◌≡◌, [], Result, Ok, Err, OnOk}
use Rattle.mi_volume.specs.State.{State, GoesOn}
use Rattle.mi_undo.specs.Stands.{StandsFor, noted, outside}
use Rattle.mi_undo.specs.Keeps.{Each, IsOpen}
use Rattle.mi_undo.specs.Room.{TakesAtMost}
use Rattle.mi_undo.specs.declared.fault.CommitFault.{CommitFault}
use Rattle.mi_undo.specs.declared.fault.CommitFault.TheVariants.{Before, Undoable, Unknown}
use Rattle.mi_undo.specs.declared.kept.Progress.{Progress}
use Rattle.mi_undo.specs.declared.kept.Progress.TheVariants.{Failed, Over}

-- after a call that began an area
pub record Begins {T E : Type 0} (old new : State) (result : Result T E) : Type 0 where
  pub goes : GoesOn old new (StandsFor old.held)
  pub leaves : Each new (StandsFor old.held)
  pub outside : outside new.held ≡ outside old.held
  pub ok : OnOk result (IsOpen new old.held [])
  pub unnoted : GoesOn old new (λ d. noted d ≡ Ok [])
  pub takes : OnOk result (TakesAtMost 0 new)

abbrev pub progress_of : {T : Type 0} → Result T CommitFault → Progress
progress_of (Ok x) = Over
progress_of (Err Before) = Failed
progress_of (Err Undoable) = Failed
progress_of (Err (Unknown first second)) = Over
