-- What records state of sizes, by what stands in them alone, and what scripts cost by that. (This project's own.)
use Rattle.std.specs.Prelude.{◌≡◌, ℕ, ◌+◌, ◌*◌, ◌-◌, max, List, [], ◌∷◌, ◌++◌, length, map, sum_by, if◌then◌else◌}
use Rattle.std.specs.List.{All, list_all}
use Rattle.std.specs.FinMap.{get, keys}
use Rattle.mi_text.specs.Maps.{Name, Map, same_name, is_among}
use Rattle.mi_volume.specs.Maps.{slot_size}
use Rattle.mi_base.specs.Spelling.{head_bytes}
use Rattle.mi_source.specs.Paths.{Files, bytes_or_none}
use Rattle.mi_script.specs.declared.rec.Rec.{Rec}
use Rattle.mi_script.specs.declared.rec.Rec.TheVariants.{Put, Drop, Copy, Dup}
use Rattle.mi_script.specs.Scripts.{name_at, script_changes}
use Rattle.mi_model.specs.Cost.{note_size, set_of}

-- ---- sizes

-- the lengths of the name and of its bytes after the record, as the record states them: 0 where it takes the name away
abbrev pub stated_size : Rec → ℕ
stated_size (Put name bytes) = length name + length bytes
stated_size (Drop name) = 0
stated_size (Copy name h file path n) = length name + (length (head_bytes h) + h.length)
stated_size (Dup name h from) = length name + (length (head_bytes h) + h.length)

-- the source has what the record copies, with as many bytes as the record states
abbrev pub HasCopied : Files → Rec → Type 0
HasCopied files (Put name bytes) = Unit {0}
HasCopied files (Drop name) = Unit {0}
HasCopied files (Copy name h file path n) = length (bytes_or_none (get files path)) ≡ n
HasCopied files (Dup name h from) = Unit {0}

-- Over a source that has what they copy, records state the sizes that their names get.
abbrev pub StateSizes : Files → Map (List ℕ) → List Rec → Type 0
StateSizes files d records = All (HasCopied files) records → map (λ c. slot_size c.at c.after) (script_changes files d records) ≡ map stated_size records

-- ---- cost: the rollback area of scripts, and what their names get greater on the way

-- those of the scripts, one behind another
abbrev pub all_records : List (List Rec) → List Rec
all_records [] = []
all_records (rs ∷ scripts) = rs ++ all_records scripts

-- the greatest size that records state of a name
abbrev pub greatest_stated : Name → List Rec → ℕ
greatest_stated q [] = 0
greatest_stated q (r ∷ rs) = if same_name q (name_at r) then max (stated_size r) (greatest_stated q rs) else greatest_stated q rs

-- what a name costs: its note, and what it has more after some record than before all
abbrev pub stated_cost_at : Map (List ℕ) → List Rec → Name → ℕ
stated_cost_at d rs q = note_size q (get d q) + (greatest_stated q rs - slot_size q (get d q))

-- in how many scripts a name stands for the first time: each notes its names as one entry
abbrev pub entries_in : List Name → List (List Rec) → ℕ
entries_in seen [] = 0
entries_in seen (rs ∷ scripts) =
    (if list_all (λ q. is_among q seen) (map name_at rs) then 0 else 1) + entries_in (seen ++ map name_at rs) scripts

abbrev pub stated_cost_of : Map (List ℕ) → List (List Rec) → List Name → ℕ
stated_cost_of d scripts [] = 0
stated_cost_of d scripts (n ∷ names) = 4 + 25 * entries_in [] scripts + sum_by (stated_cost_at d (all_records scripts)) (n ∷ names)

-- over the former map; each name counts once, in all scripts together
unfoldable pub stated_cost : Map (List ℕ) → List (List Rec) → ℕ
stated_cost d scripts = stated_cost_of d scripts (keys (set_of (map name_at (all_records scripts))))
