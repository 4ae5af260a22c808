-- The items of an image, and the machine that they stand for (this project's own).
use Rattle.std.specs.Prelude.{◌≡◌, ℕ, Bool, true, false, List, [], length, map, Option, Some, None, String, string_bytes}
use Rattle.std.specs.FinMap.{get, from_entries}
use Rattle.std.specs.declared.alloc.Global.{Global}
use Rattle.std.specs.declared.boxed.Box.{Box}
use Rattle.mi_text.specs.Maps.{Name, Map, map_values}
use Rattle.mi_base.specs.declared.entry.FileHead.{FileHead}
use Rattle.mi_base.specs.declared.entry.Entry.{Entry}
use Rattle.mi_base.specs.declared.entry.Entry.TheVariants as entry
use Rattle.mi_base.specs.Limits.{fits}
use Rattle.mi_base.specs.Names.{file_name}
use Rattle.mi_base.specs.Spelling.{name_of}
use Rattle.mi_base.specs.SpelledMaps.{spelled_at}
use Rattle.mi_base.specs.Records.{with_bytes}
use Rattle.mi_base.specs.Machine.{Machine, read_entry}
use Rattle.mi_image.specs.declared.item.Content.{Content}
use Rattle.mi_image.specs.declared.item.Content.TheVariants.{Own, Held, Copied}
use Rattle.mi_image.specs.declared.item.Item.{Item}
use Rattle.mi_image.specs.declared.item.Item.TheVariants.{Head, Whole}

-- what stands at the names of an image
abbrev pub Items : Type 0
Items = Map Item

-- an item as the program's tree keeps it
abbrev pub Boxed : Type 0
Boxed = Box Item Global

abbrev pub unboxed : Boxed → Item
unboxed b = b.value

-- what the entries of the tree make
abbrev pub items_of : List (String Global × Boxed) → Items
items_of es = map_values unboxed (from_entries (map (λ e. (string_bytes e.0, e.1)) es))

-- the bytes of a file; none where there is no such file
abbrev pub bytes_of_file : Option Entry → List ℕ
bytes_of_file (Some (entry.File f)) = f.bytes
bytes_of_file other = []

abbrev pub bytes_or_none : Option (List ℕ) → List ℕ
bytes_or_none None = []
bytes_or_none (Some bytes) = bytes

-- The bytes of a file of this name whose content is this: those of the file whose record the scanned map holds
-- under its own name or under another, or those of the source's file.
abbrev pub content_bytes : Map (List ℕ) → Map (List ℕ) → Name → Content → List ℕ
content_bytes held files own Own = bytes_of_file (spelled_at read_entry held own)
content_bytes held files own (Held name) = bytes_of_file (spelled_at read_entry held name)
content_bytes held files own (Copied path) = bytes_or_none (get files path)

-- the entry that an item stands for
abbrev pub entry_over : Map (List ℕ) → Map (List ℕ) → Item → Entry
entry_over held files (Head h content) = entry.File (with_bytes h (content_bytes held files (file_name h.shown) content))
entry_over held files (Whole e) = e

-- the machine that the items stand for, over the map that was scanned and the source's files
unfoldable pub machine_over : Map (List ℕ) → Map (List ℕ) → Items → Machine
machine_over held files items = map_values (entry_over held files) items

-- each content is there, with as many bytes as its file's head states
abbrev pub HasLength : Map (List ℕ) → Map (List ℕ) → Item → Type 0
HasLength held files (Head h content) = length (content_bytes held files (file_name h.shown) content) ≡ h.length
HasLength held files (Whole e) = Unit {0}

abbrev pub AreThere : Map (List ℕ) → Map (List ℕ) → Items → Type 0
AreThere held files items = (q : Name) (i : Item) → get items q ≡ Some i → HasLength held files i

-- Over the scanned map and the source's files an image stands for a machine: each file has the bytes that its
-- content names, as many as its head states, and every other entry is whole.
pub record ImageOf (held files : Map (List ℕ)) (image : Items) (m : Machine) : Type 0 where
  pub stands : machine_over held files image ≡ m
  pub there : AreThere held files image

-- ---- what every image keeps

-- the name of what an item stands for
abbrev pub item_name : Item → Name
item_name (Head h content) = file_name h.shown
item_name (Whole e) = name_of e

-- a file is there as its head alone
abbrev pub is_split : Item → Bool
is_split (Head h content) = true
is_split (Whole (entry.File f)) = false
is_split (Whole e) = true

-- what an item stands for keeps the limits of its record
abbrev pub item_fits : Item → Bool
item_fits (Head h content) = fits (entry.File (with_bytes h []))
item_fits (Whole e) = fits e

-- the item may stand at this name
pub record MayStand (q : Name) (i : Item) : Type 0 where
  pub named : item_name i ≡ q
  pub right : item_fits i ≡ true
  pub split : is_split i ≡ true

-- a file with this head may stand at this name
pub record HeadMayStand (q : Name) (h : FileHead) : Type 0 where
  pub named : file_name h.shown ≡ q
  pub right : fits (entry.File (with_bytes h [])) ≡ true

abbrev pub AreRight : Items → Type 0
AreRight items = (q : Name) (i : Item) → get items q ≡ Some i → MayStand q i
