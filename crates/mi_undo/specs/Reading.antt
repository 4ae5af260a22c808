-- Reading the area.
use Rattle.std.specs.Prelude.{◌≡◌, ◌⊎◌, ℕ, zero, suc, ◌+◌, ◌-◌, ◌≤◌, ◌<◌, Bool, true, false, not, ◌&&◌, nat_le, List, [], ◌∷◌, ◌++◌, take, drop, Option, Some, None, Result, Ok, Err, if◌then◌else◌}
use Rattle.std.specs.Option.{option_map}
use Rattle.std.specs.Int.{w32, from_be_bytes}
use Rattle.std.specs.Str.{is_utf8}
use Rattle.std.specs.FinMap.{get}
use Rattle.mi_volume.specs.Maps.{Map}
use Rattle.mi_volume.specs.State.{State, GoesOn, Images, Stays}
use Rattle.mi_volume.specs.declared.volume.VolFault.{VolFault}
use Rattle.mi_undo.specs.Names.{is_inside, gate_name, entry_name, most_entries}
use Rattle.mi_undo.specs.Notes.{Note, is_note, note_at, notes_of, split_at}
use Rattle.mi_undo.specs.Stands.{StandsFor, is_one, entry_notes, only_new, read_from}
use Rattle.mi_undo.specs.Keeps.{Keeps, Robust, Loose}
use Rattle.mi_undo.specs.Area.{note_in}
use Rattle.mi_undo.specs.Steps.{Touches}
use Rattle.mi_undo.specs.declared.kept.Place.{Place}
use Rattle.mi_undo.specs.declared.kept.Span.{Span}
use Rattle.mi_undo.specs.declared.read.Turn.{Turn}
use Rattle.mi_undo.specs.declared.read.Turn.TheVariants.{Read, Shut, Bad}

-- A call that only looks: nothing is changed.
pub record Looks (old new : State) : Type 0 where
  pub goes : GoesOn old new (Images old)
  pub stays : Stays old new

-- a note's tag and the length of its name
abbrev pub head_at : List ℕ → Option (ℕ × ℕ)
head_at (t ∷ a ∷ b ∷ c ∷ d ∷ rest) = Some (t, from_be_bytes w32 (a ∷ b ∷ c ∷ d ∷ []))
head_at bytes = None

abbrev pub as_name : Option (List ℕ × List ℕ) → Option (List ℕ)
as_name None = None
as_name (Some p) = if is_utf8 p.0 && not (is_inside p.0) then Some p.0 else None

-- the name of this length that can be noted
abbrev pub good_name : ℕ → List ℕ → Option (List ℕ)
good_name len bytes = if nat_le 1 len && nat_le len 1024 then as_name (split_at len bytes) else None

abbrev pub if_good : Option (Note × List ℕ) → Option (Note × List ℕ)
if_good None = None
if_good (Some p) = if is_note p.0 then Some p else None

-- the first note of these bytes, if it can be one, and the rest
unfoldable pub good_note : List ℕ → Option (Note × List ℕ)
good_note bytes = if_good (note_at bytes)

-- the place of a note and where the next one begins, as the note and the rest
abbrev pub note_placed : Map → List ℕ → Option (Place × ℕ) → Option (Note × List ℕ)
note_placed held bytes o = option_map (λ p. (note_in held p.0, drop p.1 bytes)) o

abbrev pub span_placed : List ℕ → Option Span → Option (List ℕ × List ℕ)
span_placed bytes o = option_map (λ s. (take (s.end - s.at) (drop s.at bytes), drop s.end bytes)) o

-- While an entry is read: up to this byte these notes are added.
pub record Half (bytes : List ℕ) (old now : List Note) (at : ℕ) : Type 0 where
  pub done : List Note
  pub now_is : now ≡ old ++ done
  pub rest : only_new old (notes_of bytes) ≡ option_map (λ ns. done ++ ns) (only_new now (notes_of (drop at bytes)))

-- the notes of an entry are added, where it is there and spelled
abbrev pub AddsEntry : Map → List ℕ → List Note → List Note → Result Bool VolFault → Type 0
AddsEntry held name old new (Ok true) = (ns : List Note) × ((entry_notes old (get held name) ≡ Some ns) × (new ≡ old ++ ns))
AddsEntry held name old new (Ok false) = entry_notes old (get held name) ≡ None
AddsEntry held name old new (Err e) = Unit {0}

-- the first number from k on whose gate is shut
unfoldable pub first_shut : Map → ℕ → ℕ → ℕ
first_shut d k zero = k
first_shut d k (suc fuel) = if is_one (get d (gate_name k)) then first_shut d (suc k) fuel else k

-- one turn of the reader, at entry k
abbrev pub Turns : Map → ℕ → List Note → List Note → Result Turn VolFault → Type 0
Turns held k old new (Ok Read) = (read_from held k (most_entries - k) old ≡ read_from held (k + 1) (most_entries - (k + 1)) new) × (first_shut held k (most_entries - k) ≡ first_shut held (k + 1) (most_entries - (k + 1)))
Turns held k old new (Ok Shut) = (read_from held k (most_entries - k) old ≡ Ok new) × (first_shut held k (most_entries - k) ≡ k)
Turns held k old new (Ok (Bad name)) = read_from held k (most_entries - k) old ≡ Err name
Turns held k old new (Err e) = Unit {0}

-- the name of an entry from this number on
abbrev pub IsUnread : ℕ → List ℕ → Type 0
IsUnread n q = (k : ℕ) × ((n ≤ k) × ((k < most_entries) × (q ≡ entry_name k)))

-- The volume stands for F whatever stands at the entries from this number on, too.
pub record Spare (s : State) (F : Map) (ns : List Note) (n : ℕ) : Type 0 where
  pub keeps : Keeps s F ns
  pub spare : Robust s.held (λ q. Loose s ns q ⊎ IsUnread n q) F

-- after entries from this number on were removed
pub record Spares (old new : State) (F : Map) (ns : List Note) (n : ℕ) : Type 0 where
  pub goes : GoesOn old new (StandsFor F)
  pub spare : Spare new F ns n
  pub below : (k : ℕ) → k < n → get new.held (entry_name k) ≡ get old.held (entry_name k)
  pub touches : Touches (IsUnread n) old new
