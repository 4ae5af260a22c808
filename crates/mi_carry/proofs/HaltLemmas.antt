-- How a walk over an open area ends.
use Rattle.std.proofs.Common.{◌≡◌, ◌⊎◌, inl, inr, ⊎_elim, ℕ, ◌≤◌, List, Option, None, Ok, Err, IsErrOf, refl, subst, ◌∙◌}
use Rattle.mi_volume.specs.Maps.{Map}
use Rattle.mi_volume.specs.State.{State, GoesOn, Rose}
use Rattle.mi_volume.proofs.Moments.{joined, weaker}
use Rattle.mi_undo.specs.Stands.{StandsFor, outside}
use Rattle.mi_undo.specs.Keeps.{EitherFor}
use Rattle.mi_undo.specs.Answers.{Commits, IsFreeUnlessRose}
use Rattle.mi_undo.specs.declared.kept.Kept.{Kept}
use Rattle.mi_undo.specs.declared.fault.CommitFault.{CommitFault}
use Rattle.mi_undo.specs.declared.fault.CommitFault.TheVariants as commit
use Rattle.mi_base.specs.declared.answers.Cause.{Cause}
use Rattle.mi_model.specs.Causes.{BelowCount}
use Rattle.mi_carry.specs.declared.stop.Stop.{Stop}
use Rattle.mi_carry.specs.declared.stop.Stop.TheVariants.{NoMemory, Refuse}
use Rattle.mi_carry.specs.declared.stop.Stopped.{Stopped}
use Rattle.mi_carry.specs.declared.stop.Halt.TheVariants.{Back}
use Rattle.mi_carry.specs.Causes.{IsMetStop, MayStop}
use Rattle.mi_carry.specs.Ends.{StandsAfter}
use Rattle.mi_carry.specs.Halts.{GoesAlong, Goes, halt_of}
use Rattle.mi_carry.proofs.CauseLemmas.{raised, below_before}

-- ---- a stop before the commit

pub stopped_goes : {T U E : Type 0} (told : Type 0) (s t : State) (kept : Kept) (F A : Map) (refusal : Option Cause) (e : E) (stopped : Stopped) → GoesAlong {T = U} s t kept F (Err e) → Goes {T = T} told s t kept F A refusal (Err (Back stopped))
stopped_goes told s t kept F A refusal e stopped along = record {
  goes = weaker s t (StandsFor F) _ (λ d is. inl is) along.goes;
  leaves = tt;
  reads = tt;
  free = tt;
  back = along.can_go_back;
}

-- the walk's own refusal behind its last segment
pub refused_goes : {T U E : Type 0} (told : Type 0) (s t : State) (kept : Kept) (F A : Map) (refusal : Option Cause) (x : U) (stopped : Stopped) → GoesAlong {T = U} {E = E} s t kept F (Ok x) → Goes {T = T} told s t kept F A refusal (Err (Back stopped))
refused_goes told s t kept F A refusal x stopped along = record {
  goes = weaker s t (StandsFor F) _ (λ d is. inl is) along.goes;
  leaves = tt;
  reads = tt;
  free = tt;
  back = along.can_go_back;
}

pub stop_caused : (differs : List ℕ → ℕ → ℕ → Type 0) (room fails : Type 0) (refusal : Option Cause) (begun reached n m : ℕ) (why : Stop) → IsMetStop differs (room → BelowCount n m) fails why → MayStop differs room fails refusal begun reached (BelowCount n m) why
stop_caused differs room fails refusal begun reached n m NoMemory is = tt
stop_caused differs room fails refusal begun reached n m (Refuse cause) is = inr is

-- ---- the commit

-- what the map holds that is committed, where the source tells
module _ (told : Type 0) (s t u : State) (kept : Kept) (F A : Map) (goes : GoesOn s t (StandsFor F)) (le : s.faults ≤ t.faults) (more : t.faults ≤ u.faults) (made : told → outside t.held ≡ A) where
  after_is : (d : Map) → StandsFor (outside t.held) d → StandsAfter told A None d
  after_is d stands = (refl, λ is. subst (λ (m : Map). StandsFor m d) (made is) stands)

  either : (P : Type 0) → P → (d : Map) → EitherFor F (outside t.held) d → StandsFor F d ⊎ (P × StandsAfter told A None d)
  either P may d is = ⊎_elim (λ former. inl former) (λ after. inr (may, after_is d after)) is

  -- all of it, with what the walk did before
  all : (P : Type 0) → P → GoesOn t u (EitherFor F (outside t.held)) → GoesOn s u (λ d. StandsFor F d ⊎ (P × StandsAfter told A None d))
  all P may second = joined s t u _ (weaker s t (StandsFor F) _ (λ d is. inl is) goes) (weaker t u (EitherFor F (outside t.held)) _ (either P may) second)

  pub done_goes : {T U : Type 0} (x : U) (y : T) → Commits {T = U} t u kept F (outside t.held) (Ok x) → IsFreeUnlessRose s u → Goes {T = T} told s u kept F A None (Ok y)
  done_goes x y c free = record {
    goes = all (Unit {0}) tt c.goes;
    leaves = λ d image. after_is d (c.leaves d image);
    reads = λ is. c.outside ∙ made is;
    free = free;
    back = tt;
  }

  pub failed_goes : {T U : Type 0} (fault : CommitFault) (reached : ℕ) → Commits {T = U} t u kept F (outside t.held) (Err fault) → (IsErrOf {T = U} (Err fault) commit.Undoable → Rose t u) → Goes {T = T} told s u kept F A None (Err (halt_of fault reached))
  failed_goes commit.Before reached c rose = record {
    goes = joined s t u _ (weaker s t (StandsFor F) _ (λ d is. inl is) goes) (weaker t u (StandsFor F) _ (λ d is. inl is) c.goes);
    leaves = tt;
    reads = tt;
    free = tt;
    back = c.before refl;
  }
  failed_goes commit.Undoable reached c rose = record {
    goes = all _ (tt, below_before s.faults t.faults u.faults le more (raised t u more (rose refl))) c.goes;
    leaves = tt;
    reads = tt;
    free = tt;
    back = c.undoable refl;
  }
  failed_goes (commit.Unknown first second) reached c rose = record {
    goes = all (Unit {0}) tt c.goes;
    leaves = λ d image. ⊎_elim (λ former. inl former) (λ after. inr (after_is d after)) (c.unknown d image);
    reads = tt;
    free = tt;
    back = tt;
  }
