-- Records that may be carried out.
use Rattle.std.proofs.Common.{◌≡◌, true, false, Bool, ◌||◌, List, [], ◌∷◌, map, refl, sym, ap, ◌∙◌}
use Rattle.std.specs.List.{All, AllByRecursion}
use Rattle.std.proofs.lemmas.List.Elements.{recursion_from_All, All-weaker}
use Rattle.mi_text.specs.Maps.{Name, same_name, is_among}
use Rattle.mi_text.proofs.MapLemmas.{from_same, same_itself}
use Rattle.mi_script.specs.declared.rec.Rec.{Rec}
use Rattle.mi_script.specs.Scripts.{name_at, touched_names}
use Rattle.mi_undo.specs.Names.{is_inside}
use Rattle.mi_undo.specs.Area.{AreOutside}
use Rattle.mi_runner.specs.Records.{MayCarry}
use Rattle.mi_runner.proofs.RecordLemmas.{is_among-touched}
use Rattle.mi_plan.specs.declared.segment.Segment.{Segment}
use Rattle.mi_steps.specs.Carried.{IsCarried, AreCarried}
use Rattle.mi_plan.specs.Carried.{SegmentsCarry}

-- ---- of a script

all_carry : (rs : List Rec) → AreCarried rs → All MayCarry rs
all_carry rs all = All-weaker IsCarried MayCarry (λ r is. is.may) rs all

among : (rs : List Rec) (q : Name) → AllByRecursion IsCarried rs → is_among q (map name_at rs) ≡ true → is_inside q ≡ false
among [] q all is = cc
among (r ∷ rs) q all is = elim (same_name q (name_at r)) as (λ b. same_name q (name_at r) ≡ b → (b || is_among q (map name_at rs)) ≡ true → is_inside q ≡ false) [
  | true ↦ λ same at. ap is_inside (from_same q (name_at r) same) ∙ all.0.outside
  | false ↦ λ other at. among rs q all.1 at
] refl is

outside_all : (names : List Name) → ((q : Name) → is_among q names ≡ true → is_inside q ≡ false) → AreOutside names
outside_all [] f = tt
outside_all (n ∷ names) f = (f n (ap (λ b. b || is_among n names) (same_itself n)), outside_all names (λ q is. f q (or_true (same_name q n) (is_among q names) is)))
  where
    or_true : (a b : Bool) → b ≡ true → (a || b) ≡ true
    or_true true b is = refl
    or_true false b is = is

all_outside : (rs : List Rec) → AreCarried rs → AreOutside (touched_names rs)
all_outside rs all = outside_all (touched_names rs) (λ q is. among rs q (recursion_from_All IsCarried rs all) (sym (is_among-touched rs q) ∙ is))

-- ---- of segments

pub segments_carry : (segments : List Segment) → SegmentsCarry segments → All (λ (s : Segment). All MayCarry s.script) segments
segments_carry segments all = All-weaker (λ (s : Segment). AreCarried s.script) (λ (s : Segment). All MayCarry s.script) (λ s is. all_carry s.script is) segments all

pub segments_outside : (segments : List Segment) → SegmentsCarry segments → All (λ (s : Segment). AreOutside (touched_names s.script)) segments
segments_outside segments all = All-weaker (λ (s : Segment). AreCarried s.script) (λ (s : Segment). AreOutside (touched_names s.script)) (λ s is. all_outside s.script is) segments all
