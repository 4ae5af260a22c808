-- How changes of a machine are spelled in the volume's map. (This project's own.)
use Rattle.std.specs.Prelude.{ℕ, Bool, true, false, not, ◌&&◌, List, [], ◌∷◌, Option, Some, None, option_map, is_some, nat_eq, codes, if◌then◌else◌}
use Rattle.std.specs.List.{starts_with}
use Rattle.std.specs.Str.{bytes_eq}
use Rattle.std.specs.FinMap.{get}
use Rattle.mi_text.specs.Maps.{Name, Map}
use Rattle.mi_base.specs.declared.entry.Entry.{Entry}
use Rattle.mi_base.specs.Spelling.{record_of}
use Rattle.mi_changes.specs.Changes.{Change, spelled_all}

abbrev pub is_file_name : Name → Bool
is_file_name n = starts_with nat_eq n (codes "f/")

-- the same bytes, or nothing both times
abbrev pub same_record : Option (List ℕ) → Option (List ℕ) → Bool
same_record None None = true
same_record None (Some b) = false
same_record (Some a) None = false
same_record (Some a) (Some b) = bytes_eq a b

-- a file is written, by its name and what stands there afterwards: that counts also where nothing changes
abbrev pub writes_file : {X : Type 0} → Name → Option X → Bool
writes_file q after = is_file_name q && is_some after

-- a change of the machine as one of records
abbrev pub recorded : Change Entry → Change (List ℕ)
recorded c = record { at = c.at; after = option_map record_of c.after }

-- a change that changes nothing and writes no file is left out
abbrev pub is_left_out : Change (List ℕ) → Option (List ℕ) → Bool
is_left_out c old = not (writes_file c.at c.after) && same_record c.after old

-- how a change of the machine is spelled in the map so far: as the change of one name, or not at all
abbrev pub spelled : Map (List ℕ) → Change Entry → List (Change (List ℕ))
spelled d c = if is_left_out (recorded c) (get d c.at) then [] else recorded c ∷ []

-- the changes of a map that spell changes of the machine, each over the map so far
abbrev pub spelled_changes : Map (List ℕ) → List (Change Entry) → List (Change (List ℕ))
spelled_changes d cs = spelled_all spelled d cs
