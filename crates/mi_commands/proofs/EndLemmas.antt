-- What holds behind steps that only looked at a volume.
use Rattle.std.proofs.Common.{◌≡◌, inl, inr, ⊎_elim, ℕ, ◌≤◌, true, false, List, [], ◌∷◌, ◌++◌, None, Result, Ok, cond, not, refl, sym, ap, subst, ◌∙◌, arith}
use Rattle.std.specs.FinMap.{get}
use Rattle.mi_text.proofs.MapLemmas.{same}
use Rattle.mi_volume.specs.Maps.{Map}
use Rattle.mi_volume.specs.State.{State, GoesOn, Images, Passes}
use Rattle.mi_volume.proofs.Moments.{weaker, rose_before}
use Rattle.mi_source.specs.Counts as counts
use Rattle.mi_undo.specs.Names.{marker, is_inside}
use Rattle.mi_undo.specs.Stands.{StandsFor, outside}
use Rattle.mi_undo.specs.Keeps.{Each, IsFree}
use Rattle.mi_undo.specs.Answers.{IsFreeUnlessRose}
use Rattle.mi_undo.specs.Notes.{Note}
use Rattle.mi_undo.specs.Room.{NeverShort}
use Rattle.mi_undo.proofs.ClearLemmas.{noted_unmarked}
use Rattle.mi_undo.proofs.StandsLemmas.{get-outside, stands_unmarked}
use Rattle.mi_undo.proofs.NoteLemmas.{shut_gate}
use Rattle.mi_base.specs.declared.answers.Kind.{Kind}
use Rattle.mi_base.specs.declared.answers.Kind.TheVariants as kind
use Rattle.mi_commands.specs.Looks.{Looks}
use Rattle.mi_model.specs.Causes.{BelowCount}
use Rattle.mi_model.specs.Leaves.{MayCommit}

-- ---- counts

pub below_before : (n k m : ℕ) → n ≤ k → k ≤ m → BelowCount k m → BelowCount n m
below_before n k m le more below = λ under. grind (arith, le, more, under, below)

-- the count of the source rose in a later call
pub source_before : (n k m : ℕ) → n ≤ k → counts.Rose k m → counts.Rose n m
source_before n k m le rose = record { rose = λ under. let more = rose.rose under in omega (arith, le, more) }

pub may_commit : (rose then : Type 0) → (rose → then) → (answer : Kind) → MayCommit rose answer → MayCommit then answer
may_commit rose then f kind.Done may = may
may_commit rose then f kind.Listed may = may
may_commit rose then f (kind.Recovered settled) may = may
may_commit rose then f (kind.Refused cause) may = may
may_commit rose then f (kind.Suspended pause) may = may
may_commit rose then f kind.NoMemory may = f may

-- ---- a volume with no area

-- what it holds is all outside
pub all_outside : (s : State) → IsFree s → outside s.held ≡ s.held
all_outside s free = same (outside s.held) s.held (λ q. get-outside s.held q ∙ at q)
  where
    at : (q : List ℕ) → cond (not (is_inside q)) (get s.held q) None ≡ get s.held q
    at q =
        elim (is_inside q) as (λ b. is_inside q ≡ b → cond (not b) (get s.held q) None ≡ get s.held q) [
          | true ↦ λ is. sym (free.nothing_inside q is)
          | false ↦ λ is. refl
        ] refl

-- it stands for what it holds
free_each : (s : State) → IsFree s → Each s (StandsFor s.held)
free_each s free d image = stands_unmarked d s.held
    (shut_gate (get d marker) (image.agrees marker (free.clean marker) ∙ free.nothing_inside marker refl))
    (λ q out. image.agrees q (free.clean q))
    (λ q inside. free.nothing_inside q inside)

not_empty : (front rest : List Note) (note : Note) → ◌≡◌ {A = Result (List Note) (List ℕ)} (Ok (front ++ note ∷ rest)) (Ok []) → ⊥
not_empty [] rest note is = cc
not_empty (n ∷ front) rest note is = cc

-- recovery of it has nothing to put back
free_recovers : (s : State) → IsFree s → Each s (NeverShort s.capacity)
free_recovers s free d image = λ small name short. not_empty short.front short.rest short.note (sym short.read ∙ noted_unmarked d (shut_gate (get d marker) (image.agrees marker (free.clean marker) ∙ free.nothing_inside marker refl)))

-- steps that only looked at it
module _ (s t : State) (free : IsFree s) (looks : Looks s t) where
  pub free_looks : IsFree t
  free_looks = record { nothing_inside = λ q inside. ap (λ (m : Map). get m q) looks.stays.held ∙ free.nothing_inside q inside; clean = λ q now. free.clean q (looks.stays.dirty q now) }

  pub looks_go : GoesOn s t (StandsFor s.held)
  looks_go = weaker s t (Images s) (StandsFor s.held) (free_each s free) looks.moments

  pub looks_recover : GoesOn s t (NeverShort s.capacity)
  looks_recover = weaker s t (Images s) (NeverShort s.capacity) (free_recovers s free) looks.moments

  pub looks_leave : Each t (StandsFor s.held)
  looks_leave = subst (λ (m : Map). Each t (StandsFor m)) looks.stays.held (free_each t free_looks)

  pub looks_read : outside t.held ≡ s.held
  looks_read = all_outside t free_looks ∙ looks.stays.held

pub free_then : (old mid new : State) → Passes old mid → IsFreeUnlessRose mid new → IsFreeUnlessRose old new
free_then old mid new passes = ⊎_elim (λ free. inl free) (λ rose. inr (rose_before old mid new passes rose))
