-- The print of a machine (this project's own): products, files, folders, the registry, shortcuts, environment, clients, properties of the system.
use Rattle.std.specs.Prelude.{ℕ, List, [], ◌∷◌, ◌++◌, length, codes, Option, Some, None}
use Rattle.std.specs.List.{flat_map, filter_map}
use Rattle.std.specs.FinMap.{get}
use Rattle.mi_text.specs.Fold.{folded}
use Rattle.mi_text.specs.Maps.{Name}
use Rattle.mi_base.specs.declared.entry.FileEntry.{FileEntry}
use Rattle.mi_base.specs.declared.entry.Entry.{Entry}
use Rattle.mi_base.specs.declared.entry.Entry.TheVariants as entry
use Rattle.mi_base.specs.Machine.{Machine, as_file}
use Rattle.mi_image.specs.Fronts.{value_front}
use Rattle.mi_print.specs.Registry.{key_line, exported}
use Rattle.mi_print.specs.Trees.{tree}
use Rattle.mi_print.specs.Entries.{other_line}
use Rattle.mi_print_looks.specs.Sets.{names_of}
use Rattle.mi_print_looks.specs.Strays.{stray_at}

-- the line of what stands at a name, where that isn't a file
abbrev pub other_at : Option Entry → List ℕ
other_at None = []
other_at (Some e) = other_line e

-- the lines of what stands at the names that begin so, with an indent
abbrev pub lines : Name → Machine → List ℕ
lines front m = flat_map (λ q. codes "  " ++ other_at (get m q)) (names_of front m)

-- the files, by path
unfoldable pub files_in : Machine → List FileEntry
files_in m = filter_map (λ q. as_file (get m q)) (names_of (codes "f/") m)

-- ---- the registry

abbrev pub exported_at : Option Entry → List ℕ
exported_at (Some (entry.Value k v)) = exported k.shown v
exported_at other = []

-- the names of the values of a key
abbrev pub values_of : ℕ → List ℕ → Machine → List Name
values_of root key m = names_of (value_front root (length (folded key)) (folded key)) m

-- a key and its values, and an empty line
abbrev pub key_with_values : Machine → Option Entry → List ℕ
key_with_values m (Some (entry.Key root shown)) = key_line root shown ++ flat_map (λ q. exported_at (get m q)) (values_of root shown m) ++ 10 ∷ []
key_with_values m other = []

unfoldable pub registry : Machine → List ℕ
registry m =
    codes "Windows Registry Editor Version 5.00\n\n"
    ++ flat_map (λ q. key_with_values m (get m q)) (names_of (codes "k/") m)
    ++ flat_map (λ q. stray_at m (get m q)) (names_of (codes "v/") m)

-- ---- the whole

-- a title, its lines, and an empty line
abbrev pub section : List ℕ → List ℕ → List ℕ
section title text = title ++ 10 ∷ text ++ 10 ∷ []

-- what stands behind the files
unfoldable pub others : Machine → List ℕ
others m =
    section (codes "Folders") (lines (codes "d/") m)
    ++ section (codes "Registry") (registry m)
    ++ section (codes "Shortcuts") (lines (codes "s/") m)
    ++ section (codes "Environment") (lines (codes "n/") m)
    ++ section (codes "Clients") (lines (codes "c/") m)
    ++ section (codes "System") (lines (codes "y/") m)

unfoldable pub shown : Machine → List ℕ
shown m = section (codes "Products") (lines (codes "p/") m) ++ section (codes "Files") (tree [] (files_in m)) ++ others m
