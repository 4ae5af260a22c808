use Rattle.std.proofs.Common.{◌≡◌, ◌++◌, map}
use Rattle.std.specs.Prelude.{string_bytes}
use Rattle.std.specs.FinMap.{keys}
use Rattle.mi_print_looks.proofs.SetLemmas.{now_of}
use Rattle.mi_print_looks.proofs.name_set.NameSet.list.Given as goal

abbrev pub invariant-loop-name : goal.invariant-loop-name
invariant-loop-name l = map now_of l.list.items ++ map (λ e. string_bytes e.0) l.name-iterator ≡ keys l.self
