use Rattle.std.proofs.Common.{◌≡◌, ◌++◌, ◌∷◌, [], ◌%◌, ◌/◌, drop}
use Rattle.std.specs.List.{flat_map}
use Rattle.mi_print.proofs.texts.push_units.Given as goal

abbrev pub invariant-loop-unit : goal.invariant-loop-unit
invariant-loop-unit l = l.out.items ++ flat_map (λ u. u % 256 ∷ u / 256 ∷ []) (drop l.unit-index l.units) ≡ l.fn.out.items ++ flat_map (λ u. u % 256 ∷ u / 256 ∷ []) l.units
