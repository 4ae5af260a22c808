use Rattle.std.proofs.Common.{◌≡◌, ◌++◌, List, map, take}
use Rattle.mi_text.specs.Maps.{Name}
use Rattle.mi_print_looks.specs.Sets.{name_set}
use Rattle.mi_print_looks.proofs.SetLemmas.{now_of}
use Rattle.mi_print_looks.proofs.name_set.NameSet.add_all.Given as goal

abbrev pub invariant-loop-name : goal.invariant-loop-name
invariant-loop-name l = (had : List Name) → l.fn.self ≡ name_set had → l.self ≡ name_set (had ++ map now_of (take l.name-index l.names))
