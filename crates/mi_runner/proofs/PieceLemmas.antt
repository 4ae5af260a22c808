-- Pieces of a record.
use Rattle.std.proofs.Common.{◌≡◌, ℕ, ◌+◌, ◌-◌, ◌<◌, ◌≤◌, List, ◌++◌, length, take, drop, sym, ap, ◌∙◌, ⊎_elim, arith, length-drop, length-take}
use Rattle.std.specs.Prelude.{min}
use Rattle.std.proofs.lemmas.Bool.{cases_lt}
use Rattle.std.proofs.lemmas.List.{take_all}
use Rattle.std.proofs.Math.Seq.{take-add}
use Rattle.mi_text.proofs.PieceLemmas.{take_own}

pub piece_of : (m k n : ℕ) (rest : List ℕ) → length rest ≤ n → m ≡ min (length (take n rest)) k → take m (take n rest) ≡ take k rest
piece_of m k n rest long is =
    let whole : take n rest ≡ rest = take_all n rest long in
    let cut : m ≡ min (length rest) k = is ∙ ap (λ (l : List ℕ). min (length l) k) whole in
    ap (take m) whole ∙ ⊎_elim
    (λ (lt : k < length rest). ap (λ i. take i rest) (let e : m ≡ k = omega (arith, cut) in e))
    (λ (le : length rest ≤ k). take_all m rest (omega (arith, cut)) ∙ sym (take_all k rest le))
    (cases_lt k (length rest))

-- a piece is what stands at its place
pub own_piece : (piece bytes : List ℕ) (n k : ℕ) → piece ≡ take k (drop n bytes) → take (length piece) (drop n bytes) ≡ piece
own_piece piece bytes n k is = ap (λ (l : List ℕ). take (length l) (drop n bytes)) is ∙ take_own k (drop n bytes) ∙ sym is

-- a piece as a front of the record
pub first_front : (piece bytes : List ℕ) (k : ℕ) → 0 < k → piece ≡ take k bytes → (piece ≡ take (length piece) bytes) × (length piece ≤ length bytes) × (0 < length bytes → 0 < length piece)
first_front piece bytes k some is =
    let cut : length piece ≡ min k (length bytes) = ap length is ∙ length-take k bytes in
    (is ∙ sym (ap (λ (l : List ℕ). take (length l) bytes) is ∙ take_own k bytes), omega (arith, cut), λ lt. omega (arith, cut))

-- the next piece as a part of the record
pub next_front : (piece bytes : List ℕ) (n k : ℕ) → 0 < k → n < length bytes → piece ≡ take k (drop n bytes) → (take n bytes ++ piece ≡ take (n + length piece) bytes) × (n + length piece ≤ length bytes) × (0 < length piece)
next_front piece bytes n k some lt is =
    let cut : length piece ≡ min k (length bytes - n) = ap length is ∙ length-take k (drop n bytes) ∙ ap (min k) (length-drop n bytes) in
    (sym (take-add n (length piece) bytes ∙ ap (λ (l : List ℕ). take n bytes ++ l) (own_piece piece bytes n k is)), omega (arith, cut), omega (arith, cut))
