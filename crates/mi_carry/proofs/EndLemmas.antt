-- What each exit of a walk leaves and by what it comes.
use Rattle.std.proofs.Common.{◌≡◌, ◌⊎◌, inl, inr, ⊎_elim, ℕ, ◌≤◌, true, false, cond, not, List, Option, None, Some, Result, Ok, Err, OnOk, refl, sym, subst, ◌∙◌, arith}
use Rattle.std.specs.FinMap.{get}
use Rattle.mi_text.proofs.MapLemmas.{same}
use Rattle.mi_volume.specs.Maps.{Map}
use Rattle.mi_volume.specs.State.{State, GoesOn}
use Rattle.mi_volume.proofs.Moments.{joined, weaker, started}
use Rattle.mi_undo.specs.Names.{marker, is_inside}
use Rattle.mi_undo.specs.Stands.{StandsFor, outside}
use Rattle.mi_undo.specs.Keeps.{Each, IsFree}
use Rattle.mi_undo.specs.Answers.{IsFreeUnlessRose, Declines}
use Rattle.mi_undo.specs.declared.kept.Kept.{Kept}
use Rattle.mi_undo.specs.declared.fault.OpFault.{OpFault}
use Rattle.mi_undo.specs.declared.fault.OpFault.TheVariants as op
use Rattle.mi_undo.proofs.StandsLemmas.{get-outside, stands_unmarked}
use Rattle.mi_undo.proofs.NoteLemmas.{shut_gate}
use Rattle.mi_base.specs.declared.answers.Cause.{Cause}
use Rattle.mi_base.specs.declared.answers.Cause.TheVariants.{BadWords, VolumeFault, BadRollback, RecoveryFull}
use Rattle.mi_base.specs.declared.answers.Place.{Place}
use Rattle.mi_base.specs.declared.answers.Place.TheVariants.{InRollback, InCommit}
use Rattle.mi_base.specs.declared.answers.Kind.{Kind}
use Rattle.mi_base.specs.declared.answers.Kind.TheVariants as kind
use Rattle.mi_model.specs.Causes.{BelowCount}
use Rattle.mi_model.specs.Leaves.{MayCommit, RefusalCleans, Cleans}
use Rattle.mi_model.specs.Planning.{kind_by}
use Rattle.mi_carry.specs.declared.stop.Stop.{Stop}
use Rattle.mi_carry.specs.declared.stop.Stop.TheVariants.{NoMemory, Refuse}
use Rattle.mi_carry.specs.declared.stop.Stopped.{Stopped}
use Rattle.mi_carry.specs.declared.stop.Halt.{Halt}
use Rattle.mi_carry.specs.declared.stop.Halt.TheVariants.{Back, Unknown}
use Rattle.mi_carry.specs.Stops.{stop_of_op}
use Rattle.mi_carry.specs.Causes.{MayRefuse, MayStop, Caused}
use Rattle.mi_carry.specs.Ends.{StandsAfter, AtPause, AtExit, Reads, Ends, EndsAtOne}
use Rattle.mi_carry.specs.OneMap.{PausesFor, ExitsFor, LeavesOne}
use Rattle.mi_carry.specs.Falls.{Falls, AnswersStop, gone, stuck}
use Rattle.mi_carry.specs.Halts.{Goes, IsVolumeStop, MayHold, unknown}
use Rattle.mi_carry.proofs.CauseLemmas.{below_before, below_after, met_weaker}

-- ---- a volume with no area

-- what it holds is all outside
pub all_outside : (s : State) → IsFree s → outside s.held ≡ s.held
all_outside s free = same (outside s.held) s.held (λ q. get-outside s.held q ∙ at q)
  where
    at : (q : List ℕ) → cond (not (is_inside q)) (get s.held q) None ≡ get s.held q
    at q =
        elim (is_inside q) as (λ b. is_inside q ≡ b → cond (not b) (get s.held q) None ≡ get s.held q) [
          | true ↦ λ is. sym (free.nothing_inside q is)
          | false ↦ λ is. refl
        ] refl

-- it stands for what it holds
pub free_each : (s : State) → IsFree s → Each s (StandsFor s.held)
free_each s free d image = stands_unmarked d s.held
    (shut_gate (get d marker) (image.agrees marker (free.clean marker) ∙ free.nothing_inside marker refl))
    (λ q out. image.agrees q (free.clean q))
    (λ q inside. free.nothing_inside q inside)

-- ---- what came before

pub free_then : (s t u : State) → s.faults ≤ t.faults → IsFreeUnlessRose t u → IsFreeUnlessRose s u
free_then s t u le = ⊎_elim (λ free. inl free) (λ rose. inr (record { rose = λ under. let here = rose.rose under in omega (arith, here, le) }))

may_hold : {T : Type 0} (rose then : Type 0) → (rose → then) → (r : Result T Halt) → MayHold rose r → MayHold then r
may_hold rose then f (Ok x) may = may
may_hold rose then f (Err (Back stopped)) may = (may.0, f may.1)
may_hold rose then f (Err (Unknown first second reached)) may = may

ok_then : {T E P Q : Type 0} (r : Result T E) → (P → Q) → OnOk r P → OnOk r Q
ok_then (Ok x) then p = then p
ok_then (Err e) then p = tt

-- the beginning of an area before a walk over it
pub lifted : {T : Type 0} (told : Type 0) (s t u : State) (kept : Kept) (F A B : Map) (refusal : Option Cause) (r : Result T Halt) → s.faults ≤ t.faults → t.faults ≤ u.faults → A ≡ B → GoesOn s t (StandsFor F) → Goes told t u kept F A refusal r → Goes told s u kept F B refusal r
lifted told s t u kept F A B refusal r le more same_map first g = subst (λ (m : Map). Goes told s u kept F m refusal r) same_map (record {
  goes = joined s t u _ (weaker s t (StandsFor F) _ (λ d is. inl is) first)
      (weaker t u _ _ (λ d is. ⊎_elim (λ former. inl former) (λ after. inr (may_hold _ _ (below_before s.faults t.faults u.faults le more) r after.0, after.1)) is) g.goes);
  leaves = g.leaves;
  reads = g.reads;
  free = ok_then r (free_then s t u le) g.free;
  back = g.back;
})

-- ---- going back

refusal_cleans : (s u : State) (cause : Cause) → IsFreeUnlessRose s u → RefusalCleans s u cause
refusal_cleans s u (BadWords place) free = tt
refusal_cleans s u (BadRollback name) free = tt
refusal_cleans s u (RecoveryFull name) free = tt
refusal_cleans s u VolumeFault free = tt
refusal_cleans s u other free = free

module _ (told : Type 0) (s t u : State) (kept : Kept) (F A : Map) (refusal : Option Cause) (first again : ℕ) where
  -- an image in between, by the answer to the stop
  gone_may : (why : Stop) (rose : Type 0) → IsVolumeStop why × rose → MayCommit rose (gone why)
  gone_may NoMemory rose may = absurd may.0
  gone_may (Refuse VolumeFault) rose may = tt
  gone_may (Refuse other) rose may = absurd may.0

  stuck_may : (why : Stop) (rose : Type 0) → IsVolumeStop why × rose → MayCommit rose (stuck why first again)
  stuck_may NoMemory rose may = absurd may.0
  stuck_may (Refuse VolumeFault) rose may = tt
  stuck_may (Refuse other) rose may = absurd may.0

  -- one answer
  fallen_at : (why : Stop) (k : Kind) → s.faults ≤ t.faults → t.faults ≤ u.faults → (IsVolumeStop why × BelowCount s.faults u.faults → MayCommit (BelowCount s.faults u.faults) k) → ((d : Map) → StandsFor F d → AtExit told F A refusal k d) → Reads told F A k (outside u.held) → Cleans s u k
      → GoesOn s t (λ d. StandsFor F d ⊎ ((IsVolumeStop why × BelowCount s.faults t.faults) × StandsAfter told A refusal d)) → GoesOn t u (StandsFor F) → Each u (StandsFor F) → Ends told s u F A refusal k
  fallen_at why k le more may exits reads cleans goes back leaves = record {
    stops = joined s t u _
        (weaker s t _ _ (λ d is. ⊎_elim (λ former. inl former) (λ after. inr (may (after.0.0, below_after s.faults t.faults u.faults le more after.0.1), after.1)) is) goes)
        (weaker t u (StandsFor F) _ (λ d is. inl is) back);
    leaves = λ d image. exits d (leaves d image);
    reads = reads;
    cleans = cleans;
  }

  at_gone : (why : Stop) → s.faults ≤ t.faults → t.faults ≤ u.faults → GoesOn s t (λ d. StandsFor F d ⊎ ((IsVolumeStop why × BelowCount s.faults t.faults) × StandsAfter told A refusal d)) → Falls t u F (gone why) → Ends told s u F A refusal (gone why)
  at_gone NoMemory le more goes falls = fallen_at NoMemory kind.NoMemory le more (λ may. absurd may.0) (λ d is. is) tt tt goes falls.goes falls.leaves
  at_gone (Refuse cause) le more goes falls = fallen_at (Refuse cause) (kind.Refused cause) le more (gone_may (Refuse cause) _) (λ d is. is) falls.reads (refusal_cleans s u cause (free_then s t u le falls.cleans)) goes falls.goes falls.leaves

  at_stuck : (why : Stop) → s.faults ≤ t.faults → t.faults ≤ u.faults → GoesOn s t (λ d. StandsFor F d ⊎ ((IsVolumeStop why × BelowCount s.faults t.faults) × StandsAfter told A refusal d)) → Falls t u F (stuck why first again) → Ends told s u F A refusal (stuck why first again)
  at_stuck NoMemory le more goes falls = fallen_at NoMemory kind.NoMemory le more (λ may. absurd may.0) (λ d is. is) tt tt goes falls.goes falls.leaves
  at_stuck (Refuse cause) le more goes falls = fallen_at (Refuse cause) (stuck (Refuse cause) first again) le more (stuck_may (Refuse cause) _) (λ d is. is) tt tt goes falls.goes falls.leaves

  pub fell_ends : {T : Type 0} (room : Type 0) (last : ℕ) (stopped : Stopped) (k : Kind) → s.faults ≤ t.faults → t.faults ≤ u.faults → AnswersStop room stopped.why first again last k → Goes {T = T} told s t kept F A refusal (Err (Back stopped)) → Falls t u F k → Ends told s u F A refusal k
  fell_ends room last stopped k le more answers goes falls =
      ⊎_elim (λ is. subst (Ends told s u F A refusal) (sym is) (at_gone stopped.why le more goes.goes (subst (Falls t u F) is falls)))
      (λ rest. ⊎_elim (λ is. subst (Ends told s u F A refusal) (sym is) (fallen_at stopped.why kind.NoMemory le more (λ may. may.1) (λ d d_is. d_is) tt tt goes.goes falls.goes falls.leaves))
      (λ is. subst (Ends told s u F A refusal) (sym is.0) (at_stuck stopped.why le more goes.goes (subst (Falls t u F) is.0 falls))) rest) answers

-- ---- no area was begun

pub declined_ends : (told : Type 0) (s t : State) (F A : Map) (refusal : Option Cause) (why : Stop) → s.held ≡ F → outside s.held ≡ F → Declines s t → Ends told s t F A refusal (gone why)
declined_ends told s t F A refusal why held out declines = by_why why
  where
    goes : GoesOn s t (StandsFor F)
    goes = subst (λ (m : Map). GoesOn s t (StandsFor m)) held declines.goes

    leaves : Each t (StandsFor F)
    leaves = subst (λ (m : Map). Each t (StandsFor m)) held declines.leaves

    by_why : (why : Stop) → Ends told s t F A refusal (gone why)
    by_why NoMemory = record { stops = weaker s t (StandsFor F) _ (λ d is. inl is) goes; leaves = leaves; reads = tt; cleans = tt }
    by_why (Refuse cause) = record { stops = weaker s t (StandsFor F) _ (λ d is. inl is) goes; leaves = leaves; reads = declines.outside ∙ out; cleans = refusal_cleans s t cause declines.free }

-- ---- the commit

pub done_ends : {T : Type 0} (told : Type 0) (s t : State) (kept : Kept) (F A : Map) (refusal : Option Cause) (x : T) → Goes told s t kept F A refusal (Ok x) → Ends told s t F A refusal kind.Done
done_ends told s t kept F A refusal x g = record { stops = g.goes; leaves = g.leaves; reads = g.reads; cleans = g.free }

pub unknown_ends : {T : Type 0} (told : Type 0) (s t : State) (kept : Kept) (F A : Map) (refusal : Option Cause) (first second reached : ℕ) → Goes {T = T} told s t kept F A refusal (Err (Unknown first second reached)) → Ends told s t F A refusal (unknown first second)
unknown_ends told s t kept F A refusal first second reached g = record { stops = g.goes; leaves = g.leaves; reads = tt; cleans = tt }

-- ---- any source

-- the one map after, if the source reports its content
module _ (told : Type 0) (F A B : Map) (refusal : Option Cause) (made : told → A ≡ B) where
  stands_told : (d : Map) → StandsAfter (Unit {0}) A refusal d → StandsAfter told B refusal d
  stands_told d after = (after.0, λ is. subst (λ (m : Map). StandsFor m d) (made is) (after.1 tt))

  pause_told : (place : Place) (d : Map) → AtPause (Unit {0}) F A refusal place d → AtPause told F B refusal place d
  pause_told InRollback d at = at
  pause_told InCommit d at = ⊎_elim (λ former. inl former) (λ after. inr (stands_told d after)) at

  exit_told : (k : Kind) (d : Map) → AtExit (Unit {0}) F A refusal k d → AtExit told F B refusal k d
  exit_told kind.Done d at = stands_told d at
  exit_told kind.Listed d at = at
  exit_told (kind.Recovered settled) d at = at
  exit_told (kind.Refused cause) d at = at
  exit_told (kind.Suspended pause) d at = pause_told pause.place d at
  exit_told kind.NoMemory d at = at

  reads_told : (k : Kind) (m : Map) → Reads (Unit {0}) F A k m → Reads told F B k m
  reads_told kind.Done m reads = λ is. reads tt ∙ made is
  reads_told kind.Listed m reads = reads
  reads_told (kind.Recovered settled) m reads = reads
  reads_told (kind.Refused cause) m reads = reads
  reads_told (kind.Suspended pause) m reads = reads
  reads_told kind.NoMemory m reads = reads

pub ends_told : (told : Type 0) (s u : State) (F B : Map) (refusal : Option Cause) (k : Kind) → EndsAtOne told s u F B refusal k → Ends told s u F B refusal k
ends_told told s u F B refusal k one = record {
  stops = weaker s u _ _ (λ d is. ⊎_elim (λ former. inl former) (λ after. inr (after.0, stands_told told F one.after B refusal one.made d after.1)) is) one.ends.stops;
  leaves = λ d image. exit_told told F one.after B refusal one.made k d (one.ends.leaves d image);
  reads = reads_told told F one.after B refusal one.made k (outside u.held) one.ends.reads;
  cleans = one.ends.cleans;
}

module _ (F A : Map) (refusal : Option Cause) where
  pause_one : (place : Place) (d : Map) → AtPause (Unit {0}) F A refusal place d → PausesFor F A place d
  pause_one InRollback d at = at
  pause_one InCommit d at = ⊎_elim (λ former. inl former) (λ after. inr (after.1 tt)) at

  exit_one : (k : Kind) (d : Map) → AtExit (Unit {0}) F A refusal k d → ExitsFor F A k d
  exit_one kind.Done d at = at.1 tt
  exit_one kind.Listed d at = at
  exit_one (kind.Recovered settled) d at = at
  exit_one (kind.Refused cause) d at = at
  exit_one (kind.Suspended pause) d at = pause_one pause.place d at
  exit_one kind.NoMemory d at = at

-- what it leaves, whatever the source reports
pub ends_one : (s u : State) (F A : Map) (refusal : Option Cause) (k : Kind) → Ends (Unit {0}) s u F A refusal k → LeavesOne s u F A k
ends_one s u F A refusal k ends = record {
  stops = weaker s u _ _ (λ d is. ⊎_elim (λ former. inl former) (λ after. inr (after.0, after.1.1 tt)) is) ends.stops;
  leaves = λ d image. exit_one F A refusal k d (ends.leaves d image);
  reads = λ is. subst (λ (x : Kind). Reads (Unit {0}) F A x (outside u.held)) is ends.reads tt;
}

-- ---- nothing to do

pub idle_ends : (told : Type 0) (s : State) (A : Map) (refusal : Option Cause) → IsFree s → A ≡ s.held → Ends told s s s.held A refusal (kind_by refusal)
idle_ends told s A None free is = record {
  stops = weaker s s (StandsFor s.held) _ (λ d same_d. inl same_d) (started s (StandsFor s.held));
  leaves = λ d image. (refl, λ t. subst (λ (m : Map). StandsFor m d) (sym is) (free_each s free d image));
  reads = λ t. all_outside s free ∙ sym is;
  cleans = inl free;
}
idle_ends told s A (Some cause) free is = record {
  stops = weaker s s (StandsFor s.held) _ (λ d same_d. inl same_d) (started s (StandsFor s.held));
  leaves = free_each s free;
  reads = all_outside s free;
  cleans = refusal_cleans s s cause (inl free);
}

-- ---- causes

module _ (differs : List ℕ → ℕ → ℕ → Type 0) (room fails : Type 0) (refusal : Option Cause) (begun reached : ℕ) where
  may_later : (n m l : ℕ) (cause : Cause) → n ≤ m → m ≤ l → MayRefuse differs room fails refusal begun reached (BelowCount n m) cause → MayRefuse differs room fails refusal begun reached (BelowCount n l) cause
  may_later n m l cause le more may = ⊎_elim (λ own. inl own) (λ met. inr (met_weaker differs differs cause (λ file stated found d. d) (λ below r. below_after n m l le more (below r)) (λ x. x) met)) may

  gone_caused : (n m l : ℕ) (why : Stop) → n ≤ m → m ≤ l → MayStop differs room fails refusal begun reached (BelowCount n m) why → Caused differs room fails refusal begun reached n l (gone why)
  gone_caused n m l NoMemory le more may = tt
  gone_caused n m l (Refuse cause) le more may = may_later n m l cause le more may

  stuck_caused : (n m l : ℕ) (why : Stop) → n ≤ m → m ≤ l → MayStop differs room fails refusal begun reached (BelowCount n m) why → (room → BelowCount m l) → Caused differs room fails refusal begun reached n l (stuck why n m)
  stuck_caused n m l NoMemory le more may rose = tt
  stuck_caused n m l (Refuse cause) le more may rose = record { entry = omega arith; between = le; exit = more; rose = rose; met = may }

  -- n is the count when the run began to write, m when it began to go back, l at the exit
  pub fell_caused : (n m l : ℕ) (why : Stop) (k : Kind) → n ≤ m → m ≤ l → MayStop differs room fails refusal begun reached (BelowCount n m) why → AnswersStop room why n m l k → Caused differs room fails refusal begun reached n l k
  fell_caused n m l why k le more may answers =
      ⊎_elim (λ is. subst (Caused differs room fails refusal begun reached n l) (sym is) (gone_caused n m l why le more may))
      (λ rest. ⊎_elim (λ is. subst (Caused differs room fails refusal begun reached n l) (sym is) tt)
      (λ is. subst (Caused differs room fails refusal begun reached n l) (sym is.0) (stuck_caused n m l why le more may is.1)) rest) answers

  pub stop_before : (n k m : ℕ) (why : Stop) → n ≤ k → k ≤ m → MayStop differs room fails refusal begun reached (BelowCount k m) why → MayStop differs room fails refusal begun reached (BelowCount n m) why
  stop_before n k m NoMemory le more may = tt
  stop_before n k m (Refuse cause) le more may = ⊎_elim (λ own. inl own) (λ met. inr (met_weaker differs differs cause (λ file stated found d. d) (λ below r. below_before n k m le more (below r)) (λ x. x) met)) may

-- no area was begun
pub begun_caused : (differs : List ℕ → ℕ → ℕ → Type 0) (room fails : Type 0) (refusal : Option Cause) (begun reached n m : ℕ) (fault : OpFault) → (fault ≡ op.Fault → BelowCount n m) → (fault ≡ op.Full → room → ⊥) → Caused differs room fails refusal begun reached n m (gone (stop_of_op fault))
begun_caused differs room fails refusal begun reached n m op.NoMemory rose full = tt
begun_caused differs room fails refusal begun reached n m op.Fault rose full = inr (λ is. rose refl)
begun_caused differs room fails refusal begun reached n m op.Full rose full = inr (λ is. absurd (full refl is))

-- by another room, where one gives the other
pub stop_room : (differs : List ℕ → ℕ → ℕ → Type 0) (room more fails : Type 0) (refusal : Option Cause) (begun reached : ℕ) (rose : Type 0) (why : Stop) → (more → room) → MayStop differs room fails refusal begun reached rose why → MayStop differs more fails refusal begun reached rose why
stop_room differs room more fails refusal begun reached rose NoMemory gives may = tt
stop_room differs room more fails refusal begun reached rose (Refuse cause) gives may = ⊎_elim (λ own. inl own) (λ met. inr (met_weaker differs differs cause (λ file stated found d. d) (λ below r. below (gives r)) (λ x. x) met)) may

pub answers_room : (room more : Type 0) (why : Stop) (first again last : ℕ) (k : Kind) → (more → room) → AnswersStop room why first again last k → AnswersStop more why first again last k
answers_room room more why first again last k gives = ⊎_elim (λ is. inl is) (λ rest. inr (⊎_elim (λ is. inl is) (λ is. inr (is.0, λ r. is.1 (gives r))) rest))
