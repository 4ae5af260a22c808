-- Taking away whatever is inside the area.
use Rattle.std.specs.Prelude.{◌≡◌, ◌≢◌, List, ℕ, [], Some, None, true, false, Result, OnOk}
use Rattle.std.specs.FinMap.{get}
use Rattle.mi_text.specs.Next.{is_behind}
use Rattle.mi_volume.specs.Maps.{Map}
use Rattle.mi_volume.specs.State.{State, GoesOn}
use Rattle.mi_undo.specs.Names.{marker, is_inside}
use Rattle.mi_undo.specs.Clear.{IsShut, StandsPlainly, AreAll}

-- up to this name nothing is held inside the area, besides the marker
abbrev pub IsAway : Map → List ℕ → Type 0
IsAway held after = (q : List ℕ) → is_inside q ≡ true → q ≢ marker → is_behind (Some after) q ≡ false → get held q ≡ None

-- after a call that removed one name of the area
pub record Sweeps {T E : Type 0} (old new : State) (A : Map) (name : List ℕ) (result : Result T E) : Type 0 where
  pub goes : GoesOn old new (StandsPlainly A)
  pub is_shut : IsShut new A
  pub away : OnOk result (name ≢ marker → get new.held name ≡ None)
  pub still : OnOk result ((q : List ℕ) → get old.held q ≡ None → get new.held q ≡ None)

-- while they are removed in their order, up to this one
pub record Sweeping (old new : State) (A : Map) (after : List ℕ) : Type 0 where
  pub goes : GoesOn old new (StandsPlainly A)
  pub is_shut : IsShut new A
  pub away : IsAway new.held after

-- after a call that removed all above one
pub record Swept {T E : Type 0} (old new : State) (A : Map) (result : Result T E) : Type 0 where
  pub goes : GoesOn old new (StandsPlainly A)
  pub is_shut : IsShut new A
  pub ok : OnOk result (AreAll new.held [])
