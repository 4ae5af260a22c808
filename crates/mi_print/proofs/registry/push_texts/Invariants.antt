use Rattle.std.proofs.Common.{◌≡◌, ◌++◌, ◌∷◌, drop}
use Rattle.std.specs.List.{flat_map}
use Rattle.mi_print.specs.Texts.{quoted}
use Rattle.mi_print.proofs.registry.push_texts.Given as goal

abbrev pub invariant-loop-text : goal.invariant-loop-text
invariant-loop-text l = l.out.items ++ flat_map (λ t. 32 ∷ quoted t) (drop l.text-index l.texts) ≡ l.fn.out.items ++ flat_map (λ t. 32 ∷ quoted t) l.texts
