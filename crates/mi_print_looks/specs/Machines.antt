-- The machine of an image that was scanned (this project's own).
use Rattle.std.specs.Prelude.{ℕ, List, []}
use Rattle.std.specs.FinMap.{from_sorted}
use Rattle.mi_text.specs.Maps.{Map}
use Rattle.mi_base.specs.Machine.{Machine}
use Rattle.mi_image.specs.Items.{Items, machine_over}

-- no file of a source
abbrev pub no_files : Map (List ℕ)
no_files = from_sorted []

-- the machine that an image stands for over the map that was scanned
abbrev pub machine_in : Map (List ℕ) → Items → Machine
machine_in held items = machine_over held no_files items

-- the same but for the bytes of files
abbrev pub plain_machine : Items → Machine
plain_machine items = machine_in no_files items
