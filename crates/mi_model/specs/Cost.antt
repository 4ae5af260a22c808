-- How much room a run needs besides the former map: its rollback area, and what its names hold more on the way. (This project's own.)
use Rattle.std.specs.Prelude.{◌≡◌, ℕ, ◌+◌, ◌*◌, ◌-◌, ◌^◌, min, max, Bool, true, not, ◌||◌, ◌&&◌, List, [], ◌∷◌, ◌++◌, map, filter, length, sum_by, Option, Some, None, option_map, if◌then◌else◌}
use Rattle.std.specs.List.{list_all}
use Rattle.std.specs.FinMap.{get, keys, from_entries}
use Rattle.mi_text.specs.Maps.{Name, Map, is_among}
use Rattle.mi_volume.specs.Maps.{slot_size}
use Rattle.mi_base.specs.Machine.{Machine}
use Rattle.mi_base.specs.Spelling.{record_of}
use Rattle.mi_changes.specs.Touches.{after_touches, names_of}
use Rattle.mi_script.specs.Spelled.{same_record, writes_file}
use Rattle.mi_model.specs.PhaseRows.{Touches, after_rows}
use Rattle.mi_model.specs.Walk.{Part}

-- ---- which names rows touch

-- the record at a name
abbrev pub record_at : Machine → Name → Option (List ℕ)
record_at m q = option_map record_of (get m q)

-- A row touches a name where it changes the name's record, or writes a file there.
abbrev pub touches_name : Machine → Touches → Name → Bool
touches_name m row q =
    let after = after_touches m row in
    not (same_record (record_at m q) (record_at after q)) || (is_among q (names_of row) && writes_file q (get after q))

abbrev pub touched_by : Machine → Touches → List Name
touched_by m row = filter (touches_name m row) (keys m ++ keys (after_touches m row))

-- the names that rows touch, each row over what the earlier ones leave
abbrev pub touched_in : Machine → List Touches → List Name
touched_in m [] = []
touched_in m (row ∷ rows) = touched_by m row ++ touched_in (after_touches m row) rows

-- each name once
abbrev pub set_of : List Name → Map Bool
set_of names = from_entries (map (λ n. (n, true)) names)

-- ---- sizes

abbrev pub size_at : Machine → Name → ℕ
size_at m q = slot_size q (record_at m q)

-- the greatest size of a name after some row
abbrev pub greatest : Name → Machine → List Touches → ℕ
greatest q m [] = 0
greatest q m (row ∷ rows) = max (size_at (after_touches m row) q) (greatest q (after_touches m row) rows)

-- the bytes of a name's note: that it was absent, or its old bytes
abbrev pub note_size : Name → Option (List ℕ) → ℕ
note_size q None = 5 + length q
note_size q (Some old) = 5 + length q + 8 + length old

-- what a name costs: its note, and what it has more after some row than before all
abbrev pub name_cost : Machine → List Touches → Name → ℕ
name_cost m rows q = note_size q (record_at m q) + (greatest q m rows - size_at m q)

-- ---- the whole

abbrev pub all_rows : List Part → List Touches
all_rows [] = []
all_rows (p ∷ parts) = p.rows ++ all_rows parts

-- in how many segments a name is touched for the first time: each notes its names as one entry
abbrev pub entries_from : Machine → List Name → List Part → ℕ
entries_from m seen [] = 0
entries_from m seen (p ∷ parts) =
    let names = touched_in m p.rows in
    (if list_all (λ q. is_among q seen) names then 0 else 1) + entries_from (after_rows m p.rows) (seen ++ names) parts

abbrev pub sum_of : Machine → List Part → List Name → ℕ
sum_of m parts [] = 0
sum_of m parts (n ∷ names) = 4 + 25 * entries_from m [] parts + sum_by (name_cost m (all_rows parts)) (n ∷ names)

-- over the former machine and the segments that end; the greatest count where it is more than that
unfoldable pub need : Machine → List Part → ℕ
need m parts = min (sum_of m parts (keys (set_of (touched_in m (all_rows parts))))) (2 ^ 64 - 1)

-- no segment touches a name: then nothing is written
abbrev pub TouchesNothing : Machine → List Part → Type 0
TouchesNothing m parts = touched_in m (all_rows parts) ≡ []
