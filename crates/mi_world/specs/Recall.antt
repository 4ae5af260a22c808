-- Folders of an earlier run, as the program finds them. (Changing the Target Location for a Directory.)
use Rattle.std.specs.Prelude.{◌≡◌, ℕ, if◌then◌else◌, List, [], ◌∷◌, map, drop, Option, None, option_map, option_and_then}
use Rattle.std.specs.Option.{option_or}
use Rattle.std.specs.Result.{result_ok}
use Rattle.std.specs.Borrow.{Bor}
use Rattle.std.specs.FinMap.{get, values, entries, from_entries}
use Rattle.mi_text.specs.Maps.{Name, Map, same_name}
use Rattle.mi_text.specs.Path.{folder_of, up_to_last}
use Rattle.mi_text.specs.declared.guid.Guid.{Guid}
use Rattle.mi_base.specs.declared.entry.Client.{Client}
use Rattle.mi_base.specs.Machine.{Machine, client_at}
use Rattle.mi_dirs.specs.Places.{Folder}
use Rattle.mi_rows.specs.Values.{lacks}
use Rattle.mi_schema.specs.declared.typed_rows.ComponentRow.{ComponentRow}
use Rattle.mi_schema.specs.declared.typed_rows.DirectoryRow.{DirectoryRow}

-- ---- components in byte order of their keys

abbrev pub keyed : ComponentRow → Name × ComponentRow
keyed r = (r.component, r)

abbrev pub by_component : List ComponentRow → Map ComponentRow
by_component rows = from_entries (map keyed rows)

abbrev pub in_order : List ComponentRow → List ComponentRow
in_order rows = values (by_component rows)

abbrev pub entry_now : Bor (List ℕ) × Bor ComponentRow → Name × ComponentRow
entry_now e = (e.0.now, e.1.now)

-- the rows from this place on, by their keys
abbrev pub AreOrdered : List ComponentRow → ℕ → List (Bor (List ℕ) × Bor ComponentRow) → Type 0
AreOrdered rows place es = map entry_now es ≡ entries (by_component (drop place rows))

-- ---- key paths that tell folders

-- the key path of the product's client row
abbrev pub client_path_of : Machine → ℕ → ComponentRow → Option (List ℕ)
client_path_of m code r = option_map (λ (c : Client). c.key_path) (option_and_then (λ (id : Guid). client_at m id.number code) r.component_id)

-- where it is no value's
abbrev pub told_path : Machine → ℕ → ComponentRow → Option (List ℕ)
told_path m code r = if lacks 4 r.attributes then client_path_of m code r else None

-- by one row before others
abbrev pub told_over : Machine → ℕ → ComponentRow → Name → Option (List ℕ) → Option (List ℕ)
told_over m code r dir others = if same_name dir r.directory then option_or (told_path m code r) others else others

-- by the first of the rows that lies in the directory and tells one
abbrev pub first_told : Machine → ℕ → Name → List ComponentRow → Option (List ℕ)
first_told m code dir [] = None
first_told m code dir (r ∷ rows) = told_over m code r dir (first_told m code dir rows)

abbrev pub AreToldBy : Machine → ℕ → List ComponentRow → ℕ → Map (List ℕ) → Type 0
AreToldBy m code rows place table = (dir : Name) → get table dir ≡ first_told m code dir (drop place rows)

-- ---- folders

-- the folder that a key path tells
abbrev pub folder_told : List ℕ → Option Folder
folder_told path = result_ok (folder_of (up_to_last path))

abbrev pub folder_row : Map (List ℕ) → DirectoryRow → Option (Name × Folder)
folder_row table r = option_map (λ folder. (r.directory, folder)) (option_and_then folder_told (get table r.directory))
