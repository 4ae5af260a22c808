-- What the changes of segments cost: their rollback area, and what the names that they change hold more on the way. By changes, between
-- `need` of the model, which goes by rows, and `stated_cost`, which goes by records.
use Rattle.std.specs.Prelude.{ℕ, ◌+◌, ◌*◌, ◌-◌, max, List, [], ◌∷◌, ◌++◌, map, sum_by, if◌then◌else◌}
use Rattle.std.specs.List.{list_all}
use Rattle.std.specs.FinMap.{get, keys}
use Rattle.mi_text.specs.Maps.{Name, Map, same_name, is_among}
use Rattle.mi_volume.specs.Maps.{slot_size}
use Rattle.mi_changes.specs.Changes.{Change}
use Rattle.mi_model.specs.Cost.{note_size, set_of}

-- the changes of one segment
abbrev pub Segment : Type 0
Segment = List (Change (List ℕ))

-- those of the segments, one behind another
abbrev pub all_changes : List Segment → Segment
all_changes [] = []
all_changes (cs ∷ segments) = cs ++ all_changes segments

-- the names that are changed
abbrev pub names_changed : {X : Type 0} → List (Change X) → List Name
names_changed cs = map (λ c. c.at) cs

-- the greatest size of a name after some change of it
abbrev pub greatest_size : Name → Segment → ℕ
greatest_size q [] = 0
greatest_size q (c ∷ cs) = if same_name q c.at then max (slot_size q c.after) (greatest_size q cs) else greatest_size q cs

-- what a name costs: its note, and what it has more after some change than before all
abbrev pub cost_at : Map (List ℕ) → Segment → Name → ℕ
cost_at d cs q = note_size q (get d q) + (greatest_size q cs - slot_size q (get d q))

-- in how many segments a name is changed for the first time: each notes its names as one entry
abbrev pub entries_of : List Name → List Segment → ℕ
entries_of seen [] = 0
entries_of seen (cs ∷ segments) =
    (if list_all (λ q. is_among q seen) (names_changed cs) then 0 else 1) + entries_of (seen ++ names_changed cs) segments

abbrev pub cost_of_names : Map (List ℕ) → List Segment → List Name → ℕ
cost_of_names d segments [] = 0
cost_of_names d segments (n ∷ names) = 4 + 25 * entries_of [] segments + sum_by (cost_at d (all_changes segments)) (n ∷ names)

-- over the former map; each name counts once, in all segments together
unfoldable pub cost_of_changes : Map (List ℕ) → List Segment → ℕ
cost_of_changes d segments = cost_of_names d segments (keys (set_of (names_changed (all_changes segments))))
