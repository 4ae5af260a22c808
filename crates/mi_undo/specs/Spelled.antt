-- What is read of an area, said without a reader (this project's own).
use Rattle.std.specs.Prelude.{◌≡◌, ℕ, ◌≤◌, ◌<◌, true, false, List, [], ◌∷◌, length, Some, Ok, Err}
use Rattle.std.specs.FinMap.{get}
use Rattle.mi_text.specs.Bytes.{AreBytes}
use Rattle.mi_volume.specs.Maps.{Map, bytes_or_none}
use Rattle.mi_undo.specs.Names.{marker, entry_name, gate_name, most_entries}
use Rattle.mi_undo.specs.Notes.{Note, all_notes, spelled, notes_of}
use Rattle.mi_undo.specs.Stands.{is_one, noted, stands}
use Rattle.mi_undo.specs.Keeps.{Opened, AreNew}

-- The marker is open, and so are the gates of these entries, which are spelled, each new behind those before it.
pub record AreOpen (d : Map) (parts : List (List Note)) : Type 0 where
  pub marked : is_one (get d marker) ≡ true
  pub opened : Opened d 0 parts
  pub are_new : AreNew [] parts
  pub few : length parts ≤ most_entries

-- and the next gate is shut
pub record AreAllOpen (d : Map) (parts : List (List Note)) : Type 0 where
  pub are_open : AreOpen d parts
  pub shut : length parts < most_entries → is_one (get d (gate_name (length parts))) ≡ false

-- The next gate is open, and behind it no entry stands that is spelled and new.
pub record IsFirstBad (d : Map) (name : List ℕ) : Type 0 where
  pub parts : List (List Note)
  pub are_open : AreOpen d parts
  pub below : length parts < most_entries
  pub gate : is_one (get d (gate_name (length parts))) ≡ true
  pub bad : (ns : List Note) → get d (entry_name (length parts)) ≡ Some (spelled ns) → ¬ AreNew (all_notes parts) (ns ∷ [])
  pub is_name : name ≡ entry_name (length parts)

-- what entries hold are bytes
abbrev pub HoldsBytes : Map → Type 0
HoldsBytes d = (k : ℕ) → AreBytes (bytes_or_none (get d (entry_name k)))

-- bytes that are read as notes spell them
abbrev pub SpellWhatIsRead : Type 0
SpellWhatIsRead = (bytes : List ℕ) (ns : List Note) → AreBytes bytes → notes_of bytes ≡ Some ns → bytes ≡ spelled ns

-- no other notes are read than those of all entries that are open
abbrev pub OnlyOpenAreRead : Type 0
OnlyOpenAreRead = (d : Map) (ns : List Note) → HoldsBytes d → is_one (get d marker) ≡ true → noted d ≡ Ok ns → (parts : List (List Note)) × (AreAllOpen d parts × (ns ≡ all_notes parts))

-- and these are
abbrev pub AllOpenAreRead : Type 0
AllOpenAreRead = (d : Map) (parts : List (List Note)) → AreAllOpen d parts → noted d ≡ Ok (all_notes parts)

-- what is refused is the first open gate behind which no entry is spelled and new
abbrev pub OnlyBadAreRefused : Type 0
OnlyBadAreRefused = (d : Map) (name : List ℕ) → HoldsBytes d → stands d ≡ Err name → IsFirstBad d name

-- and it is refused
abbrev pub FirstBadIsRefused : Type 0
FirstBadIsRefused = (d : Map) (name : List ℕ) → HoldsBytes d → IsFirstBad d name → stands d ≡ Err name
