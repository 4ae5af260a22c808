-- A script as a function from map to map. (This project's own.)
use Rattle.std.specs.Prelude.{ℕ, ◌-◌, List, [], ◌∷◌, ◌++◌, length, map, drop, Some, None}
use Rattle.std.specs.FinMap.{get, keys}
use Rattle.mi_text.specs.Maps.{Name, Map, set_to, tabulated}
use Rattle.mi_base.specs.Spelling.{head_bytes}
use Rattle.mi_source.specs.Paths.{Files, bytes_or_none}
use Rattle.mi_changes.specs.Changes.{Change, written}
use Rattle.mi_script.specs.declared.rec.Rec.{Rec}
use Rattle.mi_script.specs.declared.rec.Rec.TheVariants.{Put, Drop, Copy, Dup}

-- the name that a record changes
abbrev pub name_at : Rec → Name
name_at (Put name bytes) = name
name_at (Drop name) = name
name_at (Copy name h file path n) = name
name_at (Dup name h from) = name

-- the last so many bytes
abbrev pub last_bytes : ℕ → List ℕ → List ℕ
last_bytes n bytes = drop (length bytes - n) bytes

-- what a record changes, over the source's files and the map so far
abbrev pub change_of : Files → Map (List ℕ) → Rec → Change (List ℕ)
change_of files d (Put name bytes) = record { at = name; after = Some bytes }
change_of files d (Drop name) = record { at = name; after = None }
change_of files d (Copy name h file path n) = record { at = name; after = Some (head_bytes h ++ bytes_or_none (get files path)) }
change_of files d (Dup name h from) = record { at = name; after = Some (head_bytes h ++ last_bytes h.length (bytes_or_none (get d from))) }

-- the changes of a script, each over the map that the earlier ones leave
abbrev pub script_changes : Files → Map (List ℕ) → List Rec → List (Change (List ℕ))
script_changes files d [] = []
script_changes files d (r ∷ rs) = let c = change_of files d r in c ∷ script_changes files (set_to d c.at c.after) rs

-- the map after a script
abbrev pub after_script : Files → Map (List ℕ) → List Rec → Map (List ℕ)
after_script files d rs = written d (script_changes files d rs)

-- the names that the records change, each once, in byte order
unfoldable pub touched_names : List Rec → List Name
touched_names rs = keys (tabulated (λ n. Some n) (map name_at rs))
