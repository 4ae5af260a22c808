-- What differs between two machines (this project's own): kind by kind, by the line of what stands at each name of either.
use Rattle.std.specs.Prelude.{ℕ, if◌then◌else◌, List, [], ◌∷◌, ◌++◌, codes, Option, Some, None, option_map}
use Rattle.std.specs.Str.{bytes_eq}
use Rattle.std.specs.List.{flat_map}
use Rattle.std.specs.FinMap.{get, keys}
use Rattle.md5.specs.Md5.{md5}
use Rattle.mi_text.specs.Maps.{Name}
use Rattle.mi_base.specs.declared.entry.Entry.{Entry}
use Rattle.mi_base.specs.declared.entry.Entry.TheVariants as entry
use Rattle.mi_base.specs.Names.{file_name}
use Rattle.mi_base.specs.Machine.{Machine}
use Rattle.mi_image.specs.declared.item.Item.{Item}
use Rattle.mi_image.specs.declared.item.Item.TheVariants as item
use Rattle.mi_image.specs.Items.{bytes_of_file}
use Rattle.mi_print.specs.Texts.{field}
use Rattle.mi_print.specs.Lines.{head_details, file_line}
use Rattle.mi_print.specs.Entries.{other_line}
use Rattle.mi_print_looks.specs.Sets.{names_of, name_set}
use Rattle.mi_show.specs.Prints.{section}

-- ---- names

-- the names of either machine that begin so, each once, in byte order
abbrev pub names_of_either : Name → Machine → Machine → List Name
names_of_either front old new = keys (name_set (names_of front old ++ names_of front new))

-- ---- lines

-- the line of an entry; of a file with its size and the MD5 of its bytes
abbrev pub entry_line : Entry → List ℕ
entry_line (entry.File f) = file_line f
entry_line (entry.Folder t) = other_line (entry.Folder t)
entry_line (entry.Value k v) = other_line (entry.Value k v)
entry_line (entry.Key r t) = other_line (entry.Key r t)
entry_line (entry.Shortcut s) = other_line (entry.Shortcut s)
entry_line (entry.Variable v) = other_line (entry.Variable v)
entry_line (entry.Client c) = other_line (entry.Client c)
entry_line (entry.Product p) = other_line (entry.Product p)
entry_line (entry.System p t) = other_line (entry.System p t)

abbrev pub line_at : Machine → Name → Option (List ℕ)
line_at m q = option_map entry_line (get m q)

-- what is said where this line is gone, this one is new, or this one has come for that one
abbrev pub change : Option (List ℕ) → Option (List ℕ) → List ℕ
change None None = []
change None (Some new) = codes "+ " ++ new
change (Some old) None = codes "- " ++ old
change (Some old) (Some new) = if bytes_eq old new then [] else codes "~- " ++ old ++ codes "~+ " ++ new

-- ---- the whole

abbrev pub difference : Machine → Machine → Name → List ℕ
difference old new q = change (line_at old q) (line_at new q)

-- what differs at the names that begin so
abbrev pub differences : Name → Machine → Machine → List ℕ
differences front old new = flat_map (difference old new) (names_of_either front old new)

-- a title stands only before lines
abbrev pub titled : List ℕ → List ℕ → List ℕ
titled title [] = []
titled title (b ∷ text) = section title (b ∷ text)

-- a title, and how the names of the kind begin
pub record Titled : Type 0 where
  pub title : List ℕ
  pub front : Name

-- the kinds of entries, in the order of the whole print
abbrev pub kinds : List Titled
kinds =
    record { title = codes "Products"; front = codes "p/" }
    ∷ record { title = codes "Files"; front = codes "f/" }
    ∷ record { title = codes "Folders"; front = codes "d/" }
    ∷ record { title = codes "Registry keys"; front = codes "k/" }
    ∷ record { title = codes "Registry values"; front = codes "v/" }
    ∷ record { title = codes "Shortcuts"; front = codes "s/" }
    ∷ record { title = codes "Environment"; front = codes "n/" }
    ∷ record { title = codes "Clients"; front = codes "c/" }
    ∷ record { title = codes "System"; front = codes "y/" }
    ∷ []

-- what differs of a kind
abbrev pub kind_text : Machine → Machine → Titled → List ℕ
kind_text old new k = titled k.title (differences k.front old new)

-- what differs from the one machine to the other
unfoldable pub different : Machine → Machine → List ℕ
different old new = flat_map (kind_text old new) kinds

-- ---- of an item of an image

-- the line of what an item of an image of this machine stands for
abbrev pub item_line : Machine → Item → List ℕ
item_line m (item.Head h content) = field h.shown ++ head_details h (md5 (bytes_of_file (get m (file_name h.shown))))
item_line m (item.Whole e) = other_line e
