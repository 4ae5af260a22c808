-- The frames of brackets: the innermost stands last in the program and first here.
use Rattle.std.specs.Prelude.{ℕ, ◌+◌, Bool, List, [], ◌∷◌, map, reverse, sum_by}
use Rattle.mi_cond.specs.declared.bracket.Bracket.{Bracket}
use Rattle.mi_cond.specs.Steps.{FrameOf}

abbrev pub frame_of : Bracket → FrameOf Bool
frame_of b = record { nots = b.nots; rows = b.ands ∷ b.ors ∷ b.xors ∷ b.eqvs ∷ b.imps ∷ [] }

abbrev pub frames_of : List Bracket → List (FrameOf Bool)
frames_of bs = map frame_of (reverse bs)

-- the nesting inside brackets, with the NOT in front of each
abbrev pub depth_of : List Bracket → ℕ
depth_of bs = sum_by (λ b. b.nots + 1) bs
