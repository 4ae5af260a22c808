-- How long the head of a file's record is.
use Rattle.std.proofs.Common.{◌≡◌, ℕ, ◌+◌, ◌*◌, List, [], ◌∷◌, ◌++◌, length, refl, ap, ◌∙◌, arith}
use Rattle.std.specs.List.{flat_map}
use Rattle.std.specs.Int.{w16, w32, w64, to_be_bytes}
use Rattle.std.proofs.lemmas.List.{length-append}
use Rattle.std.proofs.lemmas.List.Concat.{flat_map-cons}
use Rattle.mi_base.specs.declared.entry.FileHead.{FileHead}
use Rattle.mi_base.specs.Spelling.{head_bytes}
use Rattle.mi_base.specs.Fields.{string, numbers, version}

pairs_length : (ns : List ℕ) → length (flat_map (to_be_bytes w16) ns) ≡ 2 * length ns
pairs_length [] = refl
pairs_length (n ∷ ns) = ap length (flat_map-cons (to_be_bytes w16) n ns) ∙ omega (arith, pairs_length ns)

six : (a b c d e f : List ℕ) → length (a ++ b ++ c ++ d ++ e ++ f) ≡ length a + length b + length c + length d + length e + length f
six a b c d e f = omega (arith, length-append (a ++ b ++ c ++ d ++ e) f, length-append (a ++ b ++ c ++ d) e, length-append (a ++ b ++ c) d, length-append (a ++ b) c, length-append a b)

pub length-head_bytes : (h : FileHead) → 26 + length h.shown + length (version h.version) + 2 * length h.languages ≡ length (head_bytes h)
unfolding head_bytes
length-head_bytes h =
    let whole = six (string h.shown) (version h.version) (numbers h.languages) (to_be_bytes w64 h.created) (to_be_bytes w64 h.modified) (to_be_bytes w32 h.attributes) in
    omega (arith, whole, pairs_length h.languages)
