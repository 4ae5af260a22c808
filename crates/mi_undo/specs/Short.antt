-- The first noted name for whose old bytes a volume has no room (this project's own).
use Rattle.std.specs.Prelude.{◌≡◌, ◌⊎◌, ℕ, ◌+◌, List, [], ◌∷◌, ◌++◌, Option, None, Some, Ok}
use Rattle.std.specs.FinMap.{get}
use Rattle.mi_volume.specs.Maps.{Map, size, slot_size, Fits, Exceeds}
use Rattle.mi_undo.specs.Names.{most_entries}
use Rattle.mi_undo.specs.Notes.{Note, note_of}
use Rattle.mi_undo.specs.Stands.{noted}
use Rattle.mi_undo.specs.Reading.{IsUnread, first_shut}

-- what a map holds besides the noted names and the entries that aren't read
pub record IsBase (d : Map) (ns : List Note) (base : Map) : Type 0 where
  pub away : (q : List ℕ) (w : Option (List ℕ)) → note_of ns q ≡ Some w → get base q ≡ None
  pub unread : (q : List ℕ) → IsUnread (first_shut d 0 most_entries) q → get base q ≡ None
  pub others : (q : List ℕ) → note_of ns q ≡ None → ¬ IsUnread (first_shut d 0 most_entries) q → get base q ≡ get d q

-- the sizes of the noted names with their old bytes
abbrev pub old_sizes : List Note → ℕ
old_sizes [] = 0
old_sizes (n ∷ ns) = slot_size n.name n.was + old_sizes ns

-- The volume is short at this name: beside what it holds otherwise, the old bytes of the notes before it fit, and those up to it pass the capacity.
pub record IsShort (capacity : Option ℕ) (d : Map) (name : List ℕ) : Type 0 where
  pub front : List Note
  pub note : Note
  pub rest : List Note
  pub read : noted d ≡ Ok (front ++ note ∷ rest)
  pub is_name : note.name ≡ name
  pub base : Map
  pub is_base : IsBase d (front ++ note ∷ rest) base
  pub before : (front ≡ []) ⊎ Fits capacity (size base + old_sizes front)
  pub passes : Exceeds capacity (size base + old_sizes (front ++ note ∷ []))
