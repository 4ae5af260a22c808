-- What a scan reads (this project's own).
use Rattle.std.specs.Prelude.{◌≡◌, ℕ, false, List, Option, Some, None, Result, Ok, Err, option_map}
use Rattle.std.specs.FinMap.{get}
use Rattle.mi_text.specs.Maps.{Name, Map}
use Rattle.mi_text.specs.Next.{is_behind, UpTo}
use Rattle.mi_base.specs.declared.entry.Entry.{Entry}
use Rattle.mi_base.specs.declared.entry.Entry.TheVariants as entry
use Rattle.mi_base.specs.Spelling.{head_of}
use Rattle.mi_base.specs.SpelledMaps.{spelled_at, is_bad}
use Rattle.mi_base.specs.Machine.{read_entry}
use Rattle.mi_image.specs.declared.item.Content.TheVariants.{Own}
use Rattle.mi_image.specs.declared.item.Item.{Item}
use Rattle.mi_image.specs.declared.item.Item.TheVariants.{Head, Whole}
use Rattle.mi_image.specs.declared.fault.ImageError.{ImageError}
use Rattle.mi_image.specs.declared.fault.ImageError.TheVariants.{NoMemory, Fault, BadImage}
use Rattle.mi_image.specs.Items.{Items}

-- the item of an entry that is held under its own name
abbrev pub scanned_item : Entry → Item
scanned_item (entry.File f) = Head (head_of f) Own
scanned_item e = Whole e

-- the item that a name and its record spell
abbrev pub item_read : Name → List ℕ → Option Item
item_read name bytes = option_map scanned_item (read_entry name bytes)

-- the item that is held under a name
abbrev pub item_at : Map (List ℕ) → Name → Option Item
item_at held name = option_map scanned_item (spelled_at read_entry held name)

-- an answer is the item that the name and this record spell, or says that they spell none
abbrev pub Tells : Name → List ℕ → Result Item ImageError → Type 0
Tells name bytes (Ok i) = item_read name bytes ≡ Some i
Tells name bytes (Err NoMemory) = Unit {0}
Tells name bytes (Err Fault) = Unit {0}
Tells name bytes (Err (BadImage n)) = (n ≡ name) × (item_read name bytes ≡ None)

-- what is read so far: the items up to the last name, all of which are spelled
pub record ReadUpTo (held : Map (List ℕ)) (after : Option Name) (items : Items) : Type 0 where
  pub items_are : UpTo (item_at held) after items
  pub good : (q : Name) (bytes : List ℕ) → get held q ≡ Some bytes → is_behind after q ≡ false → is_bad read_entry (q, bytes) ≡ false
