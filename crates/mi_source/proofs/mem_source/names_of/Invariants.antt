use Rattle.std.proofs.Common.{◌≡◌, map}
use Rattle.std.specs.List.{filter_map}
use Rattle.std.specs.String.{string_bytes}
use Rattle.mi_source.specs.Paths.{name_in}
use Rattle.mi_source.proofs.mem_source.names_of.Given as goal

abbrev pub invariant-loop-path : goal.invariant-loop-path
invariant-loop-path l = l.names.items ≡ filter_map (name_in l.folder) (map (λ k. string_bytes k.now) l.yielded)
