use Rattle.std.proofs.Common.{◌≡◌, ◌++◌, ◌∷◌, [], drop}
use Rattle.std.specs.List.{flat_map}
use Rattle.std.specs.Fmt.{decimal}
use Rattle.mi_print.proofs.lines.push_languages.Given as goal

abbrev pub invariant-loop-language : goal.invariant-loop-language
invariant-loop-language l = l.out.items ++ flat_map (λ l. decimal l ++ 32 ∷ []) (drop l.language-index l.languages) ≡ l.fn.out.items ++ flat_map (λ l. decimal l ++ 32 ∷ []) l.languages
