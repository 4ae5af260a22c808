use Rattle.std.proofs.Common.{◌≡◌, ◌++◌, drop, map}
use Rattle.std.specs.List.{concat}
use Rattle.mi_gen.proofs.pieces.push_all.Given as goal

abbrev pub invariant-loop-text : goal.invariant-loop-text
invariant-loop-text l = l.out.items ++ concat (map (λ text. text.now) (drop l.text-index l.texts)) ≡ l.fn.out.items ++ concat (map (λ text. text.now) l.texts)
