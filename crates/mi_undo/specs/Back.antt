-- Going back.
use Rattle.std.specs.Prelude.{◌≡◌, ℕ, ◌+◌, true, List, take, Option, None, Some, Result, OnOk, IsErrOf}
use Rattle.std.specs.FinMap.{get}
use Rattle.mi_text.specs.Maps.{set_to}
use Rattle.mi_volume.specs.Maps.{Map, Fits, Exceeds, size}
use Rattle.mi_volume.specs.State.{State, GoesOn, NothingDirty}
use Rattle.mi_undo.specs.Names.{is_inside}
use Rattle.mi_undo.specs.Notes.{Note, note_of}
use Rattle.mi_undo.specs.Stands.{StandsFor, put_over, outside}
use Rattle.mi_undo.specs.Keeps.{Each, IsNoted, Keeps, IsFree}
use Rattle.mi_undo.specs.Steps.{OnlyChanges, Touches, IsWithin}
use Rattle.mi_undo.specs.Room.{LeavesAtMost, GoesOnWithRoom}
use Rattle.mi_undo.specs.declared.fault.OpFault.{OpFault}
use Rattle.mi_undo.specs.declared.fault.OpFault.TheVariants.{Full}

-- the names inside the area hold what they held
abbrev pub InsideStays : Map → Map → Type 0
InsideStays old new = (q : List ℕ) → is_inside q ≡ true → get new q ≡ get old q

-- While the noted names are removed: these of them are away.
pub record Removing (old new : State) (F : Map) (ns front : List Note) : Type 0 where
  pub goes : GoesOn old new (StandsFor F)
  pub keeps : Keeps new F ns
  pub inside : InsideStays old.held new.held
  pub touches : Touches (IsNoted ns) old new
  pub away : (q : List ℕ) (w : Option (List ℕ)) → note_of front q ≡ Some w → get new.held q ≡ None

-- While the old bytes are put back: these of them are there, and the others are away.
pub record Returning (old new : State) (F : Map) (ns front : List Note) : Type 0 where
  pub goes : GoesOn old new (StandsFor F)
  pub keeps : Keeps new F ns
  pub inside : InsideStays old.held new.held
  pub touches : Touches (IsNoted ns) old new
  pub back : (q : List ℕ) (w : Option (List ℕ)) → note_of front q ≡ Some w → get new.held q ≡ w
  pub away : (q : List ℕ) (w : Option (List ℕ)) → note_of ns q ≡ Some w → note_of front q ≡ None → get new.held q ≡ None

-- after each noted name was removed
pub record Removed {T E : Type 0} (old new : State) (F : Map) (ns : List Note) (result : Result T E) : Type 0 where
  pub goes : GoesOn old new (StandsFor F)
  pub keeps : Keeps new F ns
  pub inside : InsideStays old.held new.held
  pub touches : Touches (IsNoted ns) old new
  pub ok : OnOk result ((q : List ℕ) (w : Option (List ℕ)) → note_of ns q ≡ Some w → get new.held q ≡ None)

-- after the old bytes of one name were put back
pub record PutsOne {T : Type 0} (name : List ℕ) (was : Option (List ℕ)) (old new : State) (result : Result T OpFault) : Type 0 where
  pub only : OnlyChanges name old new
  pub ok : OnOk result (get new.held name ≡ was)
  pub full : IsErrOf result Full → Exceeds old.capacity (size (set_to old.held name was))
  pub fits : IsWithin old → OnOk result (IsWithin new)

-- The old bytes before this note fit beside a map, and with its own they pass the capacity.
pub record IsStuck (capacity : Option ℕ) (base : Map) (ns : List Note) (at : ℕ) : Type 0 where
  pub passes : Exceeds capacity (size (put_over (take (at + 1) ns) base))
  pub before : Fits capacity (size base) → Fits capacity (size (put_over (take at ns) base))

-- a map without the names of these notes
pub record IsWithout (ns : List Note) (d base : Map) : Type 0 where
  pub away : (q : List ℕ) (w : Option (List ℕ)) → note_of ns q ≡ Some w → get base q ≡ None
  pub others : (q : List ℕ) → note_of ns q ≡ None → get base q ≡ get d q

-- after each was put back
pub record Returned {T E : Type 0} (old new : State) (F : Map) (ns : List Note) (result : Result T E) : Type 0 where
  pub goes : GoesOn old new (StandsFor F)
  pub keeps : Keeps new F ns
  pub inside : InsideStays old.held new.held
  pub touches : Touches (IsNoted ns) old new
  pub ok : OnOk result (outside new.held ≡ F)

-- after all are back, on the disk
pub record PutsBack {T E : Type 0} (old new : State) (F : Map) (ns : List Note) (result : Result T E) : Type 0 where
  pub goes : GoesOn old new (StandsFor F)
  pub keeps : Keeps new F ns
  pub inside : InsideStays old.held new.held
  pub touches : Touches (IsNoted ns) old new
  pub back : OnOk result (outside new.held ≡ F)
  pub clean : OnOk result (NothingDirty new)

-- after the marker was shut, with all back, and the area was taken away
pub record Shuts {T E : Type 0} (old new : State) (F : Map) (result : Result T E) : Type 0 where
  pub goes : GoesOn old new (StandsFor F)
  pub leaves : Each new (StandsFor F)
  pub outside : outside new.held ≡ F
  pub free : OnOk result (IsFree new)
  pub room : (n : ℕ) → LeavesAtMost n old → GoesOnWithRoom old new F n
