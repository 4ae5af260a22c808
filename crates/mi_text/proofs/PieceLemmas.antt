-- What is read in pieces.
use Rattle.std.proofs.Common.{◌≡◌, ℕ, ◌+◌, ◌-◌, ◌<◌, ◌≤◌, List, ◌++◌, length, take, drop, sym, ap, ◌∙◌, inl, inr, ⊎_elim, arith, length-drop, length-take}
use Rattle.std.specs.Prelude.{min}
use Rattle.std.proofs.lemmas.List.{take_all, length-take-le}
use Rattle.std.proofs.Math.Seq.{take-add}
use Rattle.std.proofs.lemmas.Bool.{cases_lt}

pub take_own : (m : ℕ) (l : List ℕ) → take (length (take m l)) l ≡ take m l
take_own m l = ⊎_elim
    (λ (le : m ≤ length l). ap (λ n. take n l) (length-take-le m l le))
    (λ (lt : length l < m). let all : take m l ≡ l = take_all m l (omega arith) in ap (λ (f : List ℕ). take (length f) l) all ∙ take_all (length l) l (omega arith) ∙ sym all)
    (⊎_elim (λ lt. inr lt) (λ le. inl le) (cases_lt (length l) m))

-- a front with the piece behind it is a front
pub front_piece : (bytes more whole : List ℕ) (k : ℕ) → bytes ≡ take (length bytes) whole → more ≡ bytes ++ take k (drop (length bytes) whole) → more ≡ take (length more) whole
front_piece bytes more whole k front is =
    let long : more ≡ take (length bytes + k) whole = is ∙ ap (λ (f : List ℕ). f ++ take k (drop (length bytes) whole)) front ∙ sym (take-add (length bytes) k whole) in
    long ∙ sym (ap (λ (f : List ℕ). take (length f) whole) long ∙ take_own (length bytes + k) whole)

-- a piece that is shorter than asked ends the file
pub last_piece : (bytes more piece whole : List ℕ) (k : ℕ) → bytes ≡ take (length bytes) whole → more ≡ bytes ++ piece → piece ≡ take k (drop (length bytes) whole) → length piece < k → more ≡ whole
last_piece bytes more piece whole k front is at short =
    let cut : length piece ≡ min k (length whole - length bytes) = ap length at ∙ length-take k (drop (length bytes) whole) ∙ ap (min k) (length-drop (length bytes) whole) in
    is ∙ ap (λ (f : List ℕ). f ++ piece) front ∙ ap (λ (f : List ℕ). take (length bytes) whole ++ f) at ∙ sym (take-add (length bytes) k whole) ∙ take_all (length bytes + k) whole (omega (arith, cut, short))
