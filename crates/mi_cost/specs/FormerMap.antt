-- The map that a run begins over. (This project's own.)
use Rattle.std.specs.Prelude.{ℕ, List}
use Rattle.mi_text.specs.Maps.{Map}
use Rattle.mi_base.specs.Machine.{volume_of}
use Rattle.mi_image.specs.Items.{Items, machine_over}

-- the map of the machine that an image stands for, over the map that was scanned and the source's files
abbrev pub former_map : Map (List ℕ) → Map (List ℕ) → Items → Map (List ℕ)
former_map held files items = volume_of (machine_over held files items)
