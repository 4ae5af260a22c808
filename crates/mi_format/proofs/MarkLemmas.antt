-- The program's stack of open marks.
use Rattle.std.proofs.Common.{◌≡◌, ℕ, List, [], ◌∷◌, ◌++◌, length, map, refl, ap, arith}
use Rattle.std.proofs.lemmas.List.{reverse-append}
use Rattle.mi_format.specs.declared.scan.OpenMark.{OpenMark}
use Rattle.mi_format.specs.Marks.{frame_of, frames_of}

pub frames_of-push : (ms : List OpenMark) (m : OpenMark) → frames_of (ms ++ m ∷ []) ≡ frame_of m ∷ frames_of ms
frames_of-push ms m = ap (map frame_of) (reverse-append ms (m ∷ []))

pub none_left : (ms : List OpenMark) (n : ℕ) → length ms ≡ n → n ≡ 0 → ms ≡ []
none_left [] n e h = refl
none_left (m ∷ ms) n e h = absurd (omega arith)
