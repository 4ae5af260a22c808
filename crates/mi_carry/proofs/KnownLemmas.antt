-- The records of a script are read again, by what the types of their fields say and by the length of the whole written form.
use Rattle.std.proofs.Common.{◌≡◌, ℕ, ◌+◌, ◌^◌, ◌≤◌, ◌<◌, List, [], ◌∷◌, ◌++◌, length, Ok, ap, ◌∙◌, arith}
use Rattle.std.specs.List.{flat_map, All, AllByRecursion}
use Rattle.std.specs.Int.{w64, to_be_bytes}
use Rattle.std.proofs.lemmas.List.{length-append}
use Rattle.std.proofs.lemmas.List.Concat.{flat_map-cons}
use Rattle.std.proofs.lemmas.List.Elements.{recursion_from_All}
use Rattle.mi_text.specs.Maps.{Name}
use Rattle.mi_base.specs.declared.entry.FileHead.{FileHead}
use Rattle.mi_script.specs.declared.rec.Rec.{Rec}
use Rattle.mi_script.specs.declared.rec.Rec.TheVariants.{Copy, Dup}
use Rattle.mi_script.specs.Written.{long, written_head, written_rec, written_script}
use Rattle.mi_script.specs.Reading.{script_of}
use Rattle.mi_script.specs.Kept.{IsLong, IsRec}
use Rattle.mi_script.proofs.AgainLemmas.{script_again}

-- a part is no longer than the whole
behind_front : (a b : List ℕ) → length b ≤ length (a ++ b)
behind_front a b = simp length-append (omega arith)

five_parts : (a b c d e : List ℕ) → length b ≤ length (a ++ b ++ c ++ d ++ e)
five_parts a b c d e = simp length-append (omega arith)

three_parts : (a b c : List ℕ) → length b ≤ length (a ++ b ++ c)
three_parts a b c = simp length-append (omega arith)

pub head_of_copy : (name : Name) (h : FileHead) (file path : List ℕ) (n : ℕ) → IsLong (written_rec (Copy name h file path n)) → IsLong (written_head h)
unfolding written_rec
head_of_copy name h file path n is =
    let whole = five_parts (long name) (long (written_head h)) (long file) (long path) (to_be_bytes w64 n) in
    let part = behind_front (to_be_bytes w64 (length (written_head h))) (written_head h) in
    omega (arith, whole, part, is)

pub head_of_dup : (name : Name) (h : FileHead) (from : Name) → IsLong (written_rec (Dup name h from)) → IsLong (written_head h)
unfolding written_rec
head_of_dup name h from is =
    let whole = three_parts (long name) (long (written_head h)) (long from) in
    let part = behind_front (to_be_bytes w64 (length (written_head h))) (written_head h) in
    omega (arith, whole, part, is)

-- a record is known, once its written form has a length
abbrev pub IsKnown : Rec → Type 0
IsKnown r = IsLong (written_rec r) → IsRec r

-- each record is no longer than all of them
all_recs : (rs : List Rec) → AllByRecursion IsKnown rs → length (flat_map written_rec rs) < 2 ^ 64 → AllByRecursion IsRec rs
all_recs [] known whole = tt
all_recs (r ∷ rs) known whole =
    let joined : length (flat_map written_rec (r ∷ rs)) ≡ length (written_rec r) + length (flat_map written_rec rs) = ap (λ (x : List ℕ). length x) (flat_map-cons written_rec r rs) ∙ length-append (written_rec r) (flat_map written_rec rs) in
    (known.0 (omega (arith, joined, whole)), all_recs rs known.1 (omega (arith, joined, whole)))

pub reads_again : (rs : List Rec) (bytes : List ℕ) → bytes ≡ written_script rs → length bytes < 2 ^ 64 → length rs < 2 ^ 64 → All IsKnown rs → script_of bytes ≡ Ok rs
unfolding written_script
reads_again rs bytes is whole few known =
    let size : length bytes ≡ length (to_be_bytes w64 (length rs) ++ flat_map written_rec rs) = ap (λ (x : List ℕ). length x) is in
    let rest = behind_front (to_be_bytes w64 (length rs)) (flat_map written_rec rs) in
    ap script_of is ∙ script_again rs few (all_recs rs (recursion_from_All IsKnown rs known) (omega (arith, size, rest, whole)))
