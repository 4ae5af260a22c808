-- The names of a machine, and sets of names (this project's own).
use Rattle.std.specs.Prelude.{List, map, filter, nat_eq, String, string_bytes}
use Rattle.std.specs.declared.alloc.Global.{Global}
use Rattle.std.specs.List.{starts_with}
use Rattle.std.specs.FinMap.{keys, from_entries}
use Rattle.mi_text.specs.Maps.{Name, Map}
use Rattle.mi_base.specs.Machine.{Machine}

-- the names that begin so, in byte order
abbrev pub names_of : Name → Machine → List Name
names_of front m = filter (λ q. starts_with nat_eq q front) (keys m)

-- these names as a set
abbrev pub name_set : List Name → Map (Unit {0})
name_set names = from_entries (map (λ q. (q, tt)) names)

-- the set of names that a tree of the program means
abbrev pub set_of : List (String Global × Unit {0}) → Map (Unit {0})
set_of es = from_entries (map (λ e. (string_bytes e.0, e.1)) es)
