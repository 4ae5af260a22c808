-- Taking the area away.
use Rattle.std.specs.Prelude.{◌≡◌, ◌≢◌, ◌⊎◌, ℕ, List, [], ◌∷◌, None, Result, Ok, OnOk, true, false}
use Rattle.std.specs.FinMap.{get}
use Rattle.mi_volume.specs.Maps.{Map}
use Rattle.mi_volume.specs.State.{State, GoesOn}
use Rattle.mi_undo.specs.Names.{marker, is_inside}
use Rattle.mi_undo.specs.Stands.{StandsFor, is_one, noted, outside}
use Rattle.mi_undo.specs.Keeps.{IsFree, Each}

-- it stands for A, and no note is read
abbrev pub StandsPlainly : Map → Map → Type 0
StandsPlainly A d = StandsFor A d × (noted d ≡ Ok [])

-- The marker is durably shut, and besides the area the volume is A, on the disk.
pub record IsShut (s : State) (A : Map) : Type 0 where
  pub shut : is_one (get s.held marker) ≡ false
  pub solid : ¬ s.dirty marker
  pub others : (q : List ℕ) → is_inside q ≡ false → get s.held q ≡ get A q
  pub solid_others : (q : List ℕ) → is_inside q ≡ false → ¬ s.dirty q
  pub nothing_inside : (q : List ℕ) → is_inside q ≡ true → get A q ≡ None

abbrev pub IsAmong : List ℕ → List (List ℕ) → Type 0
IsAmong q [] = ⊥
IsAmong q (n ∷ ns) = (q ≡ n) ⊎ IsAmong q ns

-- names of entries and gates, or others inside the area
abbrev pub AreInside : List (List ℕ) → Type 0
AreInside [] = Unit {0}
AreInside (n ∷ ns) = (is_inside n ≡ true) × (n ≢ marker) × AreInside ns

-- These are all that is there besides the marker.
abbrev pub AreAll : Map → List (List ℕ) → Type 0
AreAll held names = (q : List ℕ) → is_inside q ≡ true → q ≢ marker → (get held q ≡ None) ⊎ IsAmong q names

-- while they are removed: these are away
pub record Clearing (old new : State) (A : Map) (front : List (List ℕ)) : Type 0 where
  pub goes : GoesOn old new (StandsPlainly A)
  pub is_shut : IsShut new A
  pub away : (q : List ℕ) → IsAmong q front → get new.held q ≡ None
  pub still : (q : List ℕ) → get old.held q ≡ None → get new.held q ≡ None

-- after a call that removed them
pub record Cleared {T E : Type 0} (old new : State) (A : Map) (names : List (List ℕ)) (result : Result T E) : Type 0 where
  pub goes : GoesOn old new (StandsPlainly A)
  pub is_shut : IsShut new A
  pub away : OnOk result ((q : List ℕ) → IsAmong q names → get new.held q ≡ None)
  pub still : OnOk result ((q : List ℕ) → get old.held q ≡ None → get new.held q ≡ None)

-- after the area was taken away
pub record Clears {T E : Type 0} (old new : State) (A : Map) (result : Result T E) : Type 0 where
  pub goes : GoesOn old new (StandsPlainly A)
  pub leaves : Each new (StandsFor A)
  pub stands : StandsFor A new.held
  pub outside : outside new.held ≡ A
  pub ok : OnOk result (IsFree new × (new.held ≡ A))
