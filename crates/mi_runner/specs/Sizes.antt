-- How much room a segment takes at most. (This project's own.)
use Rattle.std.specs.Prelude.{◌≢◌, ℕ, ◌+◌, ◌-◌, ◌≤◌, max, List, [], ◌∷◌, length, if◌then◌else◌}
use Rattle.std.specs.FinMap.{get}
use Rattle.mi_text.specs.Maps.{Name, same_name}
use Rattle.mi_volume.specs.Maps.{Map, size, slot_size}
use Rattle.mi_base.specs.Spelling.{head_bytes}
use Rattle.mi_script.specs.declared.rec.Rec.{Rec}
use Rattle.mi_script.specs.declared.rec.Rec.TheVariants.{Put, Drop, Copy, Dup}
use Rattle.mi_script.specs.Scripts.{name_at, touched_names}
use Rattle.mi_undo.specs.Notes.{notes_for, new_names}
use Rattle.mi_undo.specs.Stands.{outside}
use Rattle.mi_undo.specs.Room.{entry_size}

-- the lengths of the name and of its bytes after the record, as the record states them: 0 where it takes the name away
abbrev pub size_after : Rec → ℕ
size_after (Put name bytes) = length name + length bytes
size_after (Drop name) = 0
size_after (Copy name h file path n) = length name + (length (head_bytes h) + n)
size_after (Dup name h from) = length name + (length (head_bytes h) + h.length)

-- the greatest size of a name after one of the records that change it, and 0 where none does
abbrev pub greatest : List Rec → Name → ℕ
greatest [] q = 0
greatest (r ∷ rs) q = if same_name q (name_at r) then max (size_after r) (greatest rs q) else greatest rs q

-- how much these names grow over the map: for each its greatest size after a record less its size in the map, where that is positive
abbrev pub growth : Map → List Rec → List Name → ℕ
growth m rs [] = 0
growth m rs (q ∷ names) = (greatest rs q - slot_size q (get m q)) + growth m rs names

-- What a segment may come to: what is held, the notes of the names that weren't noted, with 25 for their entry, and what the touched names grow.
abbrev pub most_held : Map → List Name → List Rec → ℕ
most_held held noted rs =
    size held
    + (entry_size (notes_for held (new_names noted (touched_names rs)))
    + growth (outside held) rs (touched_names rs))

-- no name outside the area is longer than it was before or is after one of the records
abbrev pub IsNoLonger : Map → List Rec → Map → Name → Type 0
IsNoLonger old rs new q = slot_size q (get (outside new) q) ≤ max (slot_size q (get (outside old) q)) (greatest rs q)

-- no name is
abbrev pub AreNoLonger : Map → List Rec → Map → Type 0
AreNoLonger old rs new = (q : Name) → IsNoLonger old rs new q

-- no name is, but for one at most
abbrev pub AreNoLongerButOne : Map → List Rec → Map → Type 0
AreNoLongerButOne old rs new = (name : Name) × ((q : Name) → q ≢ name → IsNoLonger old rs new q)
