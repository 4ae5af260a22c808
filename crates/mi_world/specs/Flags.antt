-- Facts by names, as the program keeps them. (This project's own.)
use Rattle.std.specs.Prelude.{Bool, List, map, string_bytes, String}
use Rattle.std.specs.declared.alloc.Global.{Global}
use Rattle.std.specs.FinMap.{from_entries}
use Rattle.mi_text.specs.Maps.{Name, Map}

abbrev pub flag_pair : String Global × Bool → Name × Bool
flag_pair e = (string_bytes e.0, e.1)

-- what the entries of the program's map mean
abbrev pub flags_of : List (String Global × Bool) → Map Bool
flags_of es = from_entries (map flag_pair es)
