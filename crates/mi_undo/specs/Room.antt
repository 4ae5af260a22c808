-- Room for recovery (this project's own).
use Rattle.std.specs.Prelude.{◌≡◌, ◌≢◌, ℕ, ◌+◌, ◌≤◌, true, false, List, [], ◌∷◌, length, Option, None, Result, IsErrOf}
use Rattle.std.specs.FinMap.{get}
use Rattle.mi_volume.specs.Maps.{Map, Fits, size, HoldsAtMost}
use Rattle.mi_volume.specs.State.{State, GoesOn}
use Rattle.mi_undo.specs.Names.{marker, gate_name, most_entries, is_inside}
use Rattle.mi_undo.specs.Notes.{Note, spelled}
use Rattle.mi_undo.specs.Stands.{area_of}
use Rattle.mi_undo.specs.Reading.{IsUnread, first_shut}
use Rattle.mi_undo.specs.Short.{IsShort}
use Rattle.mi_undo.specs.declared.fault.CommitFault.{CommitFault}
use Rattle.mi_undo.specs.declared.fault.CommitFault.TheVariants.{Before, Undoable}

-- the first gate that isn't open isn't held, or has at most one byte
abbrev pub IsGateSmall : Map → Type 0
IsGateSmall d = HoldsAtMost d (gate_name (first_shut d 0 most_entries)) 1

-- recovery of the map has room for all old bytes, where its first gate that isn't open is small
abbrev pub NeverShort : Option ℕ → Map → Type 0
NeverShort capacity d = IsGateSmall d → (name : List ℕ) → ¬ IsShort capacity d name

-- where the map is short at a name, another is so too
abbrev pub ShortAs : Option ℕ → Map → Map → Type 0
ShortAs capacity other d = (name : List ℕ) → IsShort capacity d name → IsShort capacity other name

-- what the area holds besides its marker and the entries that aren't read
pub record IsReadArea (d area : Map) : Type 0 where
  pub held : (q : List ℕ) → is_inside q ≡ true → q ≢ marker → ¬ IsUnread (first_shut d 0 most_entries) q → get area q ≡ get d q
  pub unread : (q : List ℕ) → IsUnread (first_shut d 0 most_entries) q → get area q ≡ None
  pub marker : get area marker ≡ None
  pub outside : (q : List ℕ) → is_inside q ≡ false → get area q ≡ None

-- that takes at most so many bytes, where the first gate that isn't open is small
abbrev pub ReadsAtMost : ℕ → Map → Type 0
ReadsAtMost n d = IsGateSmall d → (area : Map) → IsReadArea d area → size area ≤ n

-- and so does what a crash may leave, whatever stands outside the area and at the marker
abbrev pub LeavesAtMost : ℕ → State → Type 0
LeavesAtMost n s = (d : Map) → ((q : List ℕ) → is_inside q ≡ true → q ≢ marker → ¬ s.dirty q → get d q ≡ get s.held q) → ReadsAtMost n d

-- The entries and gates of the area take at most so many bytes, after a crash too.
pub record TakesAtMost (n : ℕ) (s : State) : Type 0 where
  pub held : size (area_of s.held) ≤ 4 + n
  pub left : LeavesAtMost n s

-- how many bytes an entry of these notes takes with its gate: none where there are none
abbrev pub entry_size : List Note → ℕ
entry_size [] = 0
entry_size (n ∷ ns) = 25 + length (spelled (n ∷ ns))

-- Where the former map and the area fit, no crash since has left a map whose recovery wants room.
abbrev pub GoesOnWithRoom : State → State → Map → ℕ → Type 0
GoesOnWithRoom old new F n = Fits old.capacity (size F + (4 + n)) → GoesOn old new (NeverShort old.capacity)

-- after a call of an area over F, which takes at most so many bytes then
pub record KeepsRoom (old new : State) (F : Map) (n : ℕ) : Type 0 where
  pub takes : TakesAtMost n new
  pub goes : GoesOnWithRoom old new F n

-- after a commit
pub record CommitsRoom {T : Type 0} (old new : State) (F : Map) (n : ℕ) (result : Result T CommitFault) : Type 0 where
  pub goes : GoesOnWithRoom old new F n
  pub before : IsErrOf result Before → TakesAtMost n new
  pub undoable : IsErrOf result Undoable → TakesAtMost n new
