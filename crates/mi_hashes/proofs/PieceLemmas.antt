-- Pieces of a list, one behind another.
use Rattle.std.proofs.Common.{◌≡◌, ℕ, ◌+◌, ◌-◌, ◌≤◌, List, ◌++◌, take, drop, sym, ap, subst, ◌∙◌, arith, append_assoc}
use Rattle.std.proofs.lemmas.List.{drop-drop}
use Rattle.std.proofs.Math.Seq.{take-add}
use Rattle.md5.specs.Md5.{Holds}
use Rattle.md5.specs.declared.Md5.{Md5}

-- from the place `first` up to `at`
abbrev pub between : List ℕ → ℕ → ℕ → List ℕ
between bytes first at = take (at - first) (drop first bytes)

-- with the piece behind it
pub one_more : (bytes : List ℕ) (first at n : ℕ) → first ≤ at → between bytes first at ++ take n (drop at bytes) ≡ between bytes first (at + n)
one_more bytes first at n low =
    let same : first + (at - first) ≡ at = omega arith in
    let sum : (at - first) + n ≡ (at + n) - first = omega arith in
    ap (λ (k : ℕ). take (at - first) (drop first bytes) ++ take n (drop k bytes)) (sym same)
    ∙ ap (λ (l : List ℕ). take (at - first) (drop first bytes) ++ take n l) (sym (drop-drop (at - first) first bytes))
    ∙ sym (take-add (at - first) n (drop first bytes))
    ∙ ap (λ (k : ℕ). take k (drop first bytes)) sum

-- a message with a piece more
pub holds_more : (m bytes piece : List ℕ) (before after : Md5) (first at n : ℕ) → first ≤ at → piece ≡ take n (drop at bytes) → ((w : List ℕ) → Holds before w → Holds after (w ++ piece))
    → Holds before (m ++ between bytes first at) → Holds after (m ++ between bytes first (at + n))
holds_more m bytes piece before after first at n low is update holds =
    subst (Holds after) (append_assoc m (between bytes first at) piece ∙ ap (λ (l : List ℕ). m ++ (between bytes first at ++ l)) is ∙ ap (λ (l : List ℕ). m ++ l) (one_more bytes first at n low)) (update _ holds)
