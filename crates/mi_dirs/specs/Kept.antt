-- The directories that the program keeps.
use Rattle.std.specs.Prelude.{List}
use Rattle.mi_dirs.specs.declared.dirs.Dirs.TheInside.{Inside}
use Rattle.mi_dirs.specs.Places.{Place}
use Rattle.mi_dirs.specs.Views.{places_in}
use Rattle.mi_dirs.specs.Sources.{sources_in, AreAbove}
use Rattle.mi_dirs.specs.Keeps.{Keeps}

abbrev pub places : Inside → List Place
places d = places_in d.rows.items (sources_in d.folder d.rows.items)

abbrev pub IsKept : Inside → Type 0
IsKept d = Keeps d.rows.items (sources_in d.folder d.rows.items) d.index d.order.items d.targets.items × AreAbove d.rows.items d.above.items
