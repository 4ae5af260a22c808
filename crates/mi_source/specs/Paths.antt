-- The content of a source: a map from paths to bytes. Paths use `/` and compare by bytes.
use Rattle.std.specs.Prelude.{ℕ, ◌==◌, List, [], ◌∷◌, ◌++◌, length, drop, nat_eq, Option, Some, None, if◌then◌else◌, option_and_then}
use Rattle.std.specs.List.{starts_with, list_any, filter_map}
use Rattle.std.specs.FinMap.{keys}
use Rattle.mi_text.specs.Maps.{Name, Map}

-- the files, each with its bytes, by their paths
abbrev pub Files : Type 0
Files = Map (List ℕ)

-- the bytes of a file, and none where it isn't there
abbrev pub bytes_or_none : Option (List ℕ) → List ℕ
bytes_or_none None = []
bytes_or_none (Some bytes) = bytes

-- the byte `/`
abbrev pub slash : ℕ
slash = 47

-- the rest of a text that begins with this front
abbrev pub behind : List ℕ → List ℕ → Option (List ℕ)
behind front text = if starts_with nat_eq text front then Some (drop (length front) text) else None

-- the path of the file of this name directly in the folder
abbrev pub path_in : Name → Name → Name
path_in folder name = folder ++ slash ∷ name

-- a text without `/`
abbrev pub part_alone : Name → Option Name
part_alone name = if list_any (λ b. b == slash) name then None else Some name

-- the name of a file that lies directly in the folder
abbrev pub name_in : Name → Name → Option Name
name_in folder path = option_and_then part_alone (option_and_then (behind (slash ∷ [])) (behind folder path))

-- the names of the files directly in the folder, in byte order
abbrev pub names_in : Files → Name → List Name
names_in files folder = filter_map (name_in folder) (keys files)
