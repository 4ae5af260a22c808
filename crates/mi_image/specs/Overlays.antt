-- An image that changes, beside what it was before. (This project's own.)
use Rattle.std.specs.Prelude.{ℕ, ◌++◌, List, map, Option, option_map, unwrap_or, String, string_bytes}
use Rattle.std.specs.declared.alloc.Global.{Global}
use Rattle.std.specs.FinMap.{get, keys, from_entries}
use Rattle.mi_text.specs.Maps.{Map, map_values, tabulated}
use Rattle.mi_image.specs.declared.item.Item.{Item}
use Rattle.mi_base.specs.Machine.{Machine}
use Rattle.mi_image.specs.Items.{Items, Boxed, unboxed, machine_over}

-- what stood at the names that were changed, or that nothing did
abbrev pub Stood : Type 0
Stood = Map (Option Item)

-- what the entries of the program's tree make
abbrev pub stood_of : List (String Global × Option Boxed) → Stood
stood_of es = map_values (option_map unboxed) (from_entries (map (λ e. (string_bytes e.0, e.1)) es))

-- the items before the changes: at the names that were changed what stood there, and at all others what stands there
unfoldable pub before : Items → Stood → Items
before items stood = tabulated (λ q. unwrap_or (get stood q) (get items q)) (keys items ++ keys stood)

-- the items before the changes, and those after them
abbrev pub Overlaid : Type 0
Overlaid = Items × Items

abbrev pub former_items : Overlaid → Items
former_items o = o.0

abbrev pub present_items : Overlaid → Items
present_items o = o.1

-- the machines that they stand for, over the map that was scanned and the source's files
abbrev pub former_machine : Map (List ℕ) → Map (List ℕ) → Overlaid → Machine
former_machine held files o = machine_over held files (former_items o)

abbrev pub present_machine : Map (List ℕ) → Map (List ℕ) → Overlaid → Machine
present_machine held files o = machine_over held files (present_items o)
