use Rattle.std.proofs.Common.{◌≡◌, ◌++◌, ◌∷◌, [], ◌%◌, ◌/◌, drop}
use Rattle.std.specs.List.{flat_map}
use Rattle.std.specs.Char.Escape.{encode_utf16}
use Rattle.mi_print.proofs.texts.push_chars.Given as goal

abbrev pub invariant-loop-c : goal.invariant-loop-c
invariant-loop-c l = l.out.items ++ flat_map (λ c. flat_map (λ u. u % 256 ∷ u / 256 ∷ []) (encode_utf16 c)) (drop l.c-index l.chars) ≡ l.fn.out.items ++ flat_map (λ c. flat_map (λ u. u % 256 ∷ u / 256 ∷ []) (encode_utf16 c)) l.chars
