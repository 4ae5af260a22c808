use Rattle.std.proofs.Common.{◌≡◌, ◌++◌, map}
use Rattle.std.specs.Prelude.{filter, nat_eq, string_bytes}
use Rattle.std.specs.List.{starts_with}
use Rattle.mi_image.proofs.UnderLemmas.{leading}
use Rattle.mi_image.proofs.under.names_under.Given as goal

abbrev pub invariant-loop-name : goal.invariant-loop-name
invariant-loop-name l =
    record {
      found : map (λ i. i.now) l.found.items ++ map (λ e. (string_bytes e.0)) (leading (λ e. starts_with nat_eq (string_bytes e.0) l.front) l.name-iterator) ≡ map (λ e. (string_bytes e.0)) (filter (λ e. starts_with nat_eq (string_bytes e.0) l.front) l.items.entries);
    }
