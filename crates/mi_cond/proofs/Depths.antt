-- The nesting of brackets, and the steps at it.
use Rattle.std.specs.Prelude.{Bool}
use Rattle.std.proofs.Common.{◌≡◌, ◌+◌, ◌≤◌, length, List, [], ◌∷◌, map, reverse, refl, ap, ◌∙◌, arith}
use Rattle.std.proofs.lemmas.List.{reverse-append}
use Rattle.std.proofs.lemmas.List.Sums.{sum_by-append, sum_by-cons}
use Rattle.mi_cond.specs.declared.bracket.Bracket.{Bracket}
use Rattle.mi_cond.specs.Steps.{FrameOf, depth, depth_at}
use Rattle.mi_cond.specs.declared.reader.Reader.{Reader}
use Rattle.mi_cond.specs.declared.reader.Stage.{Stage}
use Rattle.mi_cond.specs.declared.reader.Stage.TheVariants as stage
use Rattle.mi_cond.specs.States.{at_stage, state_of}
use Rattle.mi_cond.specs.Brackets.{frame_of, frames_of, depth_of}

depth_front : (bs : List Bracket) → depth (map frame_of bs) ≡ depth_of bs
depth_front [] = refl
depth_front (b ∷ bs) = omega (arith, depth_front bs, sum_by-cons (λ (x : Bracket). x.nots + 1) b bs)

depth_of-reverse : (bs : List Bracket) → depth_of (reverse bs) ≡ depth_of bs
depth_of-reverse [] = refl
depth_of-reverse (b ∷ bs) =
    ap depth_of (reverse-append (b ∷ []) bs)
    ∙ omega (arith, sum_by-append (λ (x : Bracket). x.nots + 1) (reverse bs) (b ∷ []), depth_of-reverse bs, sum_by-cons (λ (x : Bracket). x.nots + 1) b bs, sum_by-cons (λ (x : Bracket). x.nots + 1) b [])

pub depth-frames_of : (bs : List Bracket) → depth (frames_of bs) ≡ depth_of bs
depth-frames_of bs = depth_front (reverse bs) ∙ depth_of-reverse bs

-- each open bracket is one level
pub open_within : (bs : List Bracket) → length bs ≤ depth_of bs
open_within [] = omega arith
open_within (b ∷ bs) = omega (arith, open_within bs, sum_by-cons (λ (x : Bracket). x.nots + 1) b bs)

deep_stage : (below : List (FrameOf Bool)) (top : FrameOf Bool) (g : Stage) → depth below ≤ depth_at (at_stage below top g)
deep_stage below top stage.Wants = omega arith
deep_stage below top (stage.Value v) = omega arith
deep_stage below top (stage.Compares l c) = omega arith
deep_stage below top (stage.Has b) = omega arith

-- no more brackets are open than it is deep
pub open_depth : (r : Reader) → length r.below.items ≤ depth_at (state_of r)
open_depth r = omega (arith, open_within r.below.items, depth-frames_of r.below.items, deep_stage (frames_of r.below.items) (frame_of r.top) r.stage)

pub ruleset depths = (depth-frames_of)
