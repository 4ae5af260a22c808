-- Writing an entry.
use Rattle.std.specs.Prelude.{◌≡◌, ℕ, ◌+◌, ◌<◌, ◌^◌, true, ◌&&◌, nat_le, not, List, [], ◌∷◌, ◌++◌, length, Option, Result, OnOk, IfOk, IsErrOf}
use Rattle.std.specs.Prelude.{Vec}
use Rattle.std.specs.declared.alloc.Global.{Global}
use Rattle.std.specs.Option.{option_map}
use Rattle.std.specs.Str.{is_utf8}
use Rattle.std.specs.FinMap.{get, insert}
use Rattle.mi_volume.specs.Maps.{Map, Exceeds, size}
use Rattle.mi_volume.specs.State.{State, GoesOn}
use Rattle.mi_undo.specs.Names.{is_inside, entry_name}
use Rattle.mi_undo.specs.Notes.{Note, all_notes, head_bytes, old_bytes, spelled_note, spelled}
use Rattle.mi_undo.specs.Stands.{StandsFor, outside}
use Rattle.mi_undo.specs.Keeps.{Keeps, IsOpen, OnlyBelow}
use Rattle.mi_undo.specs.Area.{notes_in}
use Rattle.mi_undo.specs.Steps.{OnlyChanges, HoldsNoMore, Adds, AddsBytes}
use Rattle.mi_undo.specs.Room.{ReadsAtMost, LeavesAtMost}
use Rattle.mi_undo.specs.declared.kept.Place.{Place}
use Rattle.mi_undo.specs.declared.fault.OpFault.{OpFault}
use Rattle.mi_undo.specs.declared.fault.OpFault.TheVariants.{Full}

-- its lengths have room in their fields
pub record Fits (n : Note) : Type 0 where
  pub name : length n.name < 2 ^ 32
  pub was : length (old_bytes n.was) < 2 ^ 64

abbrev pub AllFit : List Note → Type 0
AllFit [] = Unit {0}
AllFit (n ∷ ns) = Fits n × AllFit ns

-- each can be a noted name
abbrev pub AreGood : List (List ℕ) → Type 0
AreGood [] = Unit {0}
AreGood (n ∷ names) = (nat_le 1 (length n) && nat_le (length n) 1024 && is_utf8 n && not (is_inside n) ≡ true) × AreGood names

-- the place of a note that is spelled from this byte on, of so many old bytes
abbrev pub placed_at : ℕ → ℕ → List ℕ → Option ℕ → Place
placed_at number at name len = record { name = name; entry = number; old = option_map (λ n. record { at = at + length (head_bytes name len); end = at + length (head_bytes name len) + n }) len }

abbrev pub place_of : ℕ → ℕ → Note → Place
place_of number at n = placed_at number at n.name (option_map length n.was)

-- the places of notes that are spelled from this byte on
abbrev pub places_from : ℕ → ℕ → List Note → List Place
places_from number at [] = []
places_from number at (n ∷ ns) = place_of number at n ∷ places_from number (at + length (spelled_note n)) ns

-- the note of a name, as it is held
abbrev pub note_for : Map → List ℕ → Note
note_for m name = record { name = name; was = get m name }

-- Behind what the name holds and what is pending these bytes are added: then it holds more of them, and what is left is pending.
-- After an error it holds no more than all of them.
pub record Gathers {T : Type 0} (name before pending bytes left : List ℕ) (old new : State) (result : Result T OpFault) : Type 0 where
  pub only : OnlyChanges name old new
  pub ok : OnOk result ((written : List ℕ) × ((new.held ≡ insert old.held name (before ++ written)) × (written ++ left ≡ pending ++ bytes)))
  pub most : HoldsNoMore name (length (before ++ (pending ++ bytes))) old new
  pub full : IsErrOf result Full → Exceeds old.capacity (size (insert old.held name (before ++ (pending ++ bytes))))

-- after a call that added the note of a name to an entry of these bytes, behind which these were pending
pub record WritesNote (entry before pending left : List ℕ) (number at : ℕ) (n : Note) (old new : State) (result : Result (Place × ℕ) OpFault) : Type 0 where
  pub gathers : Gathers entry before pending (spelled_note n) left old new result
  pub place : IfOk result (λ r. r.0 ≡ place_of number at n)
  pub end_is : IfOk result (λ r. r.1 ≡ at + length (spelled_note n))
  pub fits : IfOk result (λ r. length (old_bytes n.was) < 2 ^ 64)

-- after a call that wrote an entry
pub record WritesEntry (entry : List ℕ) (number : ℕ) (ns : List Note) (old new : State) (result : Result (Vec Place Global) OpFault) : Type 0 where
  pub adds : Adds entry [] (spelled ns) old new result
  pub places : IfOk result (λ v. v.items ≡ places_from number 0 ns)
  pub fit : OnOk result (AllFit ns)

-- While the next entry is made, or after that has failed: the area is gone back over as before.
pub record Trying (old new : State) (F : Map) (parts : List (List Note)) : Type 0 where
  pub goes : GoesOn old new (StandsFor F)
  pub keeps : Keeps new F (all_notes parts)
  pub only : OnlyBelow new.held (length parts + 1)
  pub outside : outside new.held ≡ outside old.held

-- after a call that made the next entry
pub record Enters (number : ℕ) (F : Map) (parts : List (List Note)) (ns : List Note) (old new : State) (result : Result (Vec Place Global) OpFault) : Type 0 where
  pub trying : Trying old new F parts
  pub is_open : OnOk result (IsOpen new F (parts ++ ns ∷ []))
  pub placed : IfOk result (λ v. notes_in new.held v.items ≡ ns)
  pub places : IfOk result (λ v. v.items ≡ places_from number 0 ns)
  pub others : (k : ℕ) → k < length parts → get new.held (entry_name k) ≡ get old.held (entry_name k)
  pub adds : AddsBytes (25 + length (spelled ns)) old new result
  pub room : (n : ℕ) → LeavesAtMost n old → GoesOn old new (ReadsAtMost (n + (25 + length (spelled ns)))) × LeavesAtMost (n + (25 + length (spelled ns))) new
