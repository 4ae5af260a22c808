-- Settling.
use Rattle.std.specs.Prelude.{◌≡◌, ℕ, true, false, List, [], None, IsSome, Result, Ok, Err, OnOk, IfOk, IsErr, IsErrOf}
use Rattle.std.specs.FinMap.{get}
use Rattle.mi_volume.specs.Maps.{Map}
use Rattle.mi_volume.specs.State.{State, GoesOn, NothingDirty, Passes, Rose}
use Rattle.mi_text.specs.declared.answers.Settled.{Settled}
use Rattle.mi_undo.specs.Names.{marker, is_inside, most_entries}
use Rattle.mi_undo.specs.Notes.{Note, note_of}
use Rattle.mi_undo.specs.Stands.{StandsFor, is_one, read_from, noted, stands, settled}
use Rattle.mi_undo.specs.Keeps.{Each, IsFree}
use Rattle.mi_undo.specs.Area.{AreBelow, notes_in}
use Rattle.mi_undo.specs.Clear.{IsShut}
use Rattle.mi_undo.specs.Reading.{first_shut}
use Rattle.mi_undo.specs.Short.{IsShort}
use Rattle.mi_undo.specs.Room.{ShortAs}
use Rattle.mi_undo.specs.Answers.{IfBad, IfFull}
use Rattle.mi_undo.specs.declared.fault.UndoError.{UndoError}
use Rattle.mi_undo.specs.declared.fault.UndoError.TheVariants.{Fault}
use Rattle.mi_undo.specs.declared.kept.Place.{Place}

-- The marker is open, and these are the places of all notes that are read, of so many entries.
pub record IsRead (s : State) (places : List Place) (entries : ℕ) : Type 0 where
  pub clean : NothingDirty s
  pub marked : is_one (get s.held marker) ≡ true
  pub read : read_from s.held 0 most_entries [] ≡ Ok (notes_in s.held places)
  pub count : first_shut s.held 0 most_entries ≡ entries
  pub below : AreBelow entries places

-- Settling, from a state to another, by its answer: each field is the clause of `settle` of that name.
pub record IsSettling (old new : State) (result : Result Settled UndoError) : Type 0 where
  pub settled : IfOk result (λ s. s ≡ settled old.held)
  pub free : IfOk result (λ s. IsFree new)
  pub value : IfOk result (λ s. stands old.held ≡ Ok new.held)
  pub stops : NothingDirty old → (F : Map) → stands old.held ≡ Ok F → GoesOn old new (StandsFor F)
  pub leaves : NothingDirty old → (F : Map) → stands old.held ≡ Ok F → Each new (StandsFor F)
  pub room : NothingDirty old → GoesOn old new (ShortAs old.capacity old.held)
  pub again : (F : Map) → stands old.held ≡ Ok F → StandsFor F new.held
  pub others : (F : Map) (ns : List Note) → stands old.held ≡ Ok F → noted old.held ≡ Ok ns → (q : List ℕ) → is_inside q ≡ false → note_of ns q ≡ None → get new.held q ≡ get F q
  pub unread : NothingDirty old → (bad : List ℕ) → stands old.held ≡ Err bad → GoesOn old new (λ d. d ≡ old.held)
  pub unread_stays : (bad : List ℕ) → stands old.held ≡ Err bad → new.held ≡ old.held
  pub unread_leaves : NothingDirty old → (bad : List ℕ) → stands old.held ≡ Err bad → Each new (λ d. d ≡ old.held)
  pub bad : IfBad result (λ bad. stands old.held ≡ Err bad)
  pub passes : Passes old new
  pub fault : IsErrOf result Fault → Rose old new
  pub full : IfFull result (λ name. IsSome old.capacity × IsShort old.capacity old.held name)
  pub short : (name : List ℕ) → IsShort old.capacity old.held name → IsErr result

-- after the notes were put back and the marker was shut
pub record Undoes {T E : Type 0} (old new : State) (F : Map) (ns : List Note) (result : Result T E) : Type 0 where
  pub goes : GoesOn old new (StandsFor F)
  pub leaves : Each new (StandsFor F)
  pub stands : StandsFor F new.held
  pub others : (q : List ℕ) → is_inside q ≡ false → note_of ns q ≡ None → get new.held q ≡ get F q
  pub ok : OnOk result (IsShut new F)
  pub short : GoesOn old new (ShortAs old.capacity old.held)

-- after a volume was settled that stood for F, with nothing dirty
pub record Settles {T E : Type 0} (old new : State) (F : Map) (result : Result T E) : Type 0 where
  pub goes : GoesOn old new (StandsFor F)
  pub leaves : Each new (StandsFor F)
  pub stands : StandsFor F new.held
  pub others : (ns : List Note) → noted old.held ≡ Ok ns → (q : List ℕ) → is_inside q ≡ false → note_of ns q ≡ None → get new.held q ≡ get F q
  pub ok : OnOk result (IsFree new × (new.held ≡ F))
  pub short : GoesOn old new (ShortAs old.capacity old.held)
