-- What the engine answers behind its loop is the outcome.
use Rattle.std.proofs.Common.{◌≡◌, ℕ, Bool, true, false, cond, List, [], ◌∷◌, Option, Some, None, refl, sym, ap, ◌∙◌}
use Rattle.std.specs.Prelude.{length}
use Rattle.mi_text.specs.Maps.{Name}
use Rattle.mi_base.specs.Machine.{Machine}
use Rattle.mi_source.specs.Paths.{Files}
use Rattle.mi_base.specs.declared.answers.Cause.{Cause}
use Rattle.mi_base.specs.declared.answers.Kind.{Kind}
use Rattle.mi_model.specs.Walk.{Part, Walked}
use Rattle.mi_model.specs.Cost.{need}
use Rattle.mi_model.specs.PackageOutcome.{Outcome, by_refusal, whole, is_room, full, by_parts, of_walk, kind_of}
use Rattle.mi_model.specs.Plans.{Planned, ArePlanned}
use Rattle.mi_model.specs.Planning.{IsPlan, kind_by, full_kind, full_reached, planned_kind, planned_reached}

pub record Same (out : Outcome) (k : Kind) (n : ℕ) : Type 0 where
  pub kind : kind_of out.end ≡ k
  pub reached : out.reached ≡ n

of_refusal : (w : Walked) (r : Option Cause) → kind_of (by_refusal w r) ≡ kind_by r
of_refusal w None = refl
of_refusal w (Some cause) = refl

same_whole : (files : Files) (w : Walked) (names : List Name) (plans : List Planned) (why : Option Cause) → IsPlan files w names plans why → Same (whole w) (kind_by why) (length names)
same_whole files w names plans why p = record { kind = of_refusal w w.refusal ∙ ap kind_by p.refusal; reached = ap (λ (ns : List Name). length ns) p.begun }

same_full : (files : Files) (free : Option ℕ) (n : ℕ) (w : Walked) (names : List Name) (plans : List Planned) (why : Option Cause) (first : Part) (planned : Planned)
    → IsPlan files w names plans why → planned.reached ≡ first.reached → Same (full free n w first) (full_kind free n why) (full_reached free planned.reached (length names))
same_full files None n w names plans why first planned p e = same_whole files w names plans why p
same_full files (Some free) n w names plans why first planned p e = record { kind = refl; reached = sym e }

by_room : (files : Files) (free : Option ℕ) (n : ℕ) (w : Walked) (names : List Name) (plans : List Planned) (why : Option Cause) (first : Part) (planned : Planned) (b : Bool)
    → IsPlan files w names plans why → planned.reached ≡ first.reached
    → Same (cond b (whole w) (full free n w first)) (cond b (kind_by why) (full_kind free n why)) (cond b (length names) (full_reached free planned.reached (length names)))
by_room files free n w names plans why first planned true p e = same_whole files w names plans why p
by_room files free n w names plans why first planned false p e = same_full files free n w names plans why first planned p e

same_parts : (files : Files) (free : Option ℕ) (m : Machine) (w : Walked) (names : List Name) (all : List Planned) (why : Option Cause) (parts : List Part) (plans : List Planned)
    → IsPlan files w names all why → ArePlanned files m parts plans
    → Same (by_parts free w parts) (planned_kind free (need w.world.given.former w.parts) plans why) (planned_reached free (need w.world.given.former w.parts) names plans)
same_parts files free m w names all why [] [] p are = same_whole files w names all why p
same_parts files free m w names all why [] (x ∷ plans) p are = absurd are
same_parts files free m w names all why (q ∷ parts) [] p are = absurd are
same_parts files free m w names all why (q ∷ parts) (x ∷ plans) p are = by_room files free (need w.world.given.former w.parts) w names all why q x (is_room free (need w.world.given.former w.parts)) p are.0.reached

-- the answer of the engine, and how many actions it has begun, where no device fails
pub same_answer : (files : Files) (free : Option ℕ) (w : Walked) (names : List Name) (plans : List Planned) (why : Option Cause)
    → IsPlan files w names plans why
    → Same (of_walk free w) (planned_kind free (need w.world.given.former w.parts) plans why) (planned_reached free (need w.world.given.former w.parts) names plans)
unfolding of_walk
same_answer files free w names plans why p = same_parts files free w.world.given.former w names plans why w.parts plans p p.ended
