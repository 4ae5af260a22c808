-- What an `Open` means over its volume.
use Rattle.std.specs.Prelude.{◌≡◌, ◌≢◌, ◌≤◌, ◌<◌, ◌-◌, ℕ, true, false, List, [], ◌∷◌, length, map, take, drop}
use Rattle.std.specs.Option.{option_map}
use Rattle.std.specs.FinMap.{get}
use Rattle.std.specs.BTreeSet.{BTreeSet, contains}
use Rattle.mi_text.specs.Maps.{name_cmp, is_among}
use Rattle.mi_volume.specs.Maps.{Map, bytes_or_none}
use Rattle.mi_volume.specs.State.{State}
use Rattle.mi_undo.specs.Names.{marker, entry_name, most_entries, is_inside, area_names}
use Rattle.mi_undo.specs.Notes.{Note, all_notes, are_new}
use Rattle.mi_undo.specs.Keeps.{Keeps, IsOpen, OnlyBelow}
use Rattle.mi_undo.specs.declared.kept.Place.{Place}
use Rattle.mi_undo.specs.declared.kept.Kept.{Kept}
use Rattle.mi_undo.specs.declared.kept.Progress.TheVariants.{Working, Over}
use Rattle.mi_undo.specs.declared.area.Open.{Open}

-- none begins with j/
abbrev pub AreOutside : List (List ℕ) → Type 0
AreOutside [] = Unit {0}
AreOutside (n ∷ names) = (is_inside n ≡ false) × AreOutside names

-- the note that stands at a place, where the entries hold these bytes
abbrev pub note_in : Map → Place → Note
note_in d p = record { name = p.name; was = option_map (λ s. take (s.end - s.at) (drop s.at (bytes_or_none (get d (entry_name p.entry))))) p.old }

abbrev pub notes_in : Map → List Place → List Note
notes_in d places = map (note_in d) places

-- the names of places
abbrev pub place_names : List Place → List (List ℕ)
place_names places = map (λ p. p.name) places

-- the numbers of their entries are below this
abbrev pub AreBelow : ℕ → List Place → Type 0
AreBelow n [] = Unit {0}
AreBelow n (p ∷ places) = (p.entry < n) × AreBelow n places

-- the set has these names
abbrev pub Knows : BTreeSet (List ℕ) → List (List ℕ) → Type 0
Knows seen names = (q : List ℕ) → contains name_cmp seen q ≡ is_among q names

module _ {V : Type 0} where
  -- the volume that is lent
  abbrev pub volume : Open V Kept → V
  volume o = o.vol.now

  -- the noted names, in order
  abbrev pub noted_names : Open V Kept → List (List ℕ)
  noted_names o = place_names o.kept.places.items

  -- how many entries stand
  abbrev pub entry_count : Open V Kept → ℕ
  entry_count o = o.kept.entries

  -- no call has failed, and it isn't over
  pub record IsWorking (o : Open V Kept) : Type 0 where
    pub working : o.progress ≡ Working
    pub knows : Knows o.kept.seen (noted_names o)
    pub outside : AreOutside (noted_names o)

  -- it isn't over
  abbrev pub IsLive : Open V Kept → Type 0
  IsLive o = o.progress ≢ Over

  -- it has noted nothing yet
  pub record IsFresh (o : Open V Kept) : Type 0 where
    pub is_working : IsWorking o
    pub names : noted_names o ≡ []
    pub entries : entry_count o ≡ 0

-- how many entries are made to note these names: none where there are none
abbrev pub entries_for : List (List ℕ) → ℕ
entries_for [] = 0
entries_for (n ∷ names) = 1

-- The area is in order, and F is the former map.
pub record Works (s : State) (kept : Kept) (F : Map) : Type 0 where
  pub parts : List (List Note)
  pub is_open : IsOpen s F parts
  pub placed : notes_in s.held kept.places.items ≡ all_notes parts
  pub numbers : AreBelow (length parts) kept.places.items
  pub entries : kept.entries ≡ length parts
  pub area : kept.area.items ≡ area_names (length parts)
  pub marker : kept.marker ≡ marker

-- The area can be gone back over, after a failed call too, and F is the former map.
pub record CanGoBack (s : State) (kept : Kept) (F : Map) : Type 0 where
  pub notes : List Note
  pub keeps : Keeps s F notes
  pub are_new : are_new [] notes ≡ true
  pub placed : notes_in s.held kept.places.items ≡ notes
  pub tried : ℕ
  pub few : tried ≤ most_entries
  pub area : kept.area.items ≡ area_names tried
  pub only : OnlyBelow s.held tried
  pub marker : kept.marker ≡ marker
