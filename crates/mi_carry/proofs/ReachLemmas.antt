-- How many actions are answered as begun.
use Rattle.std.proofs.Common.{◌≡◌, ◌⊎◌, inl, inr, ⊎_elim, ℕ, zero, suc, ◌-◌, ◌<◌, List, [], ◌∷◌, length, get_or, Option, None, Some, Err, refl, sym, ap, subst, arith}
use Rattle.std.specs.Prelude.{is_some}
use Rattle.std.proofs.lemmas.List.Elements.{All-nil}
use Rattle.mi_volume.specs.Maps.{Map}
use Rattle.mi_volume.specs.State.{State, GoesOn}
use Rattle.mi_volume.proofs.Moments.{joined, weaker}
use Rattle.mi_undo.specs.Stands.{StandsFor}
use Rattle.mi_undo.specs.declared.fault.OpFault.{OpFault}
use Rattle.mi_undo.specs.declared.fault.OpFault.TheVariants as op
use Rattle.mi_undo.specs.declared.fault.CommitFault.{CommitFault}
use Rattle.mi_undo.specs.declared.fault.CommitFault.TheVariants as commit
use Rattle.mi_runner.specs.Records.{States}
use Rattle.mi_base.specs.declared.answers.Cause.{Cause}
use Rattle.mi_base.specs.declared.answers.Cause.TheVariants.{VolumeFault, SourceFault, Table}
use Rattle.mi_base.specs.declared.answers.Fault.TheVariants.{SizeDiffers}
use Rattle.mi_base.specs.declared.answers.Kind.{Kind}
use Rattle.mi_base.specs.declared.answers.Kind.TheVariants as kind
use Rattle.mi_model.specs.Plans.{Planned}
use Rattle.mi_model.specs.Planning.{kind_by}
use Rattle.mi_carry.specs.declared.stop.Stop.{Stop}
use Rattle.mi_carry.specs.declared.stop.Stop.TheVariants.{NoMemory, Refuse}
use Rattle.mi_carry.specs.Segments.{HaveNoRecord}
use Rattle.mi_carry.specs.Stops.{stop_of_op}
use Rattle.mi_carry.specs.Causes.{Differs, IsMet, IsMetStop}
use Rattle.mi_carry.specs.Falls.{AnswersStop, gone, stuck}
use Rattle.mi_carry.specs.Halts.{halt_of}
use Rattle.mi_carry.specs.Reached.{at_end_of, first_reached, last_reached, AtOne, AtFault, AtMetStop, AtStop, IsReached, HaltReached, HaltHasBegunCommit}

-- ---- the segments

-- where there is a record, there is a segment
pub not_none : (segments : List Planned) → (HaveNoRecord segments → ⊥) → segments ≡ [] → ⊥
not_none segments some is = some (subst HaveNoRecord (sym is) (All-nil (λ (s : Planned). s.records ≡ [])))

among_map : (segments : List Planned) (k : ℕ) (s : Planned) → k < length segments → get_or segments k s ≡ s → AtOne segments s.reached
among_map [] k s below is = absurd (omega arith)
among_map (t ∷ segments) zero s below is = (0, omega arith, ap (λ (x : Planned). x.reached) is)
among_map (t ∷ segments) (suc k) s below is = let rest = among_map segments k s (omega (arith, below)) is in (suc rest.0, omega (arith, rest.1), rest.2)

among_place : (begun : ℕ) (segments : List Planned) (k : ℕ) → k < length segments → AtOne segments (at_end_of begun segments k)
among_place begun [] k below = absurd (omega arith)
among_place begun (t ∷ segments) zero below = (0, omega arith, refl)
among_place begun (t ∷ segments) (suc k) below = let rest = among_place begun segments k (omega (arith, below)) in (suc rest.0, omega (arith, rest.1), rest.2)

pub among_first : (begun : ℕ) (segments : List Planned) → (segments ≡ [] → ⊥) → AtOne segments (first_reached begun segments)
among_first begun [] some = absurd (some refl)
among_first begun (t ∷ segments) some = among_place begun (t ∷ segments) 0 (omega arith)

pub among_last : (begun : ℕ) (segments : List Planned) → (segments ≡ [] → ⊥) → AtOne segments (last_reached begun segments)
among_last begun [] some = absurd (some refl)
among_last begun (t ∷ segments) some = among_place begun (t ∷ segments) (length (t ∷ segments) - 1) (omega arith)

-- ---- a stop within a segment

at_fault : (told volume fails : Type 0) (segments : List Planned) (k : ℕ) (s : Planned) → k < length segments → s ≡ get_or segments k s → (cause : Cause) → IsMet (Differs told (s ∷ [])) volume fails cause → AtFault segments s.reached cause
at_fault told volume fails segments k s below is VolumeFault met = among_map segments k s below (sym is)
at_fault told volume fails segments k s below is SourceFault met = among_map segments k s below (sym is)
at_fault told volume fails segments k s below is (Table (SizeDiffers file stated found)) met = (
  s,
  (k, below, sym is),
  subst (λ (x : Planned). States x.records file stated) (sym (only met.among.0 met.segment met.among.1 met.among.2)) met.states,
  refl,
)
  where
    only : (j : ℕ) (x : Planned) → j < 1 → get_or (s ∷ []) j x ≡ x → s ≡ x
    only zero x less at = at
    only (suc j) x less at = absurd (omega arith)
at_fault told volume fails segments k s below is other met = absurd met

pub at_met : (told volume fails : Type 0) (segments : List Planned) (k : ℕ) (s : Planned) → k < length segments → s ≡ get_or segments k s → (why : Stop) → IsMetStop (Differs told (s ∷ [])) volume fails why → AtMetStop segments s.reached why
at_met told volume fails segments k s below is NoMemory met = among_map segments k s below (sym is)
at_met told volume fails segments k s below is (Refuse cause) met = at_fault told volume fails segments k s below is cause met

at_one : (segments : List Planned) (reached : ℕ) (cause : Cause) → AtFault segments reached cause → AtOne segments reached
at_one segments reached (Table (SizeDiffers file stated found)) is = subst (AtOne segments) (sym is.3) (among_map segments is.1.0 is.0 is.1.1 is.1.2)
at_one segments reached other is = is

-- ---- the answers

module _ (refusal : Option Cause) (begun : ℕ) (segments : List Planned) (reached : ℕ) where
  pub met_stop : (why : Stop) → AtMetStop segments reached why → AtStop refusal begun segments reached why
  met_stop NoMemory is = is
  met_stop (Refuse cause) is = inr is

  gone_reached : (why : Stop) → AtStop refusal begun segments reached why → IsReached refusal begun segments reached (gone why)
  gone_reached NoMemory is = inr is
  gone_reached (Refuse cause) is = is

  pub memory_reached : (why : Stop) → AtStop refusal begun segments reached why → IsReached refusal begun segments reached kind.NoMemory
  memory_reached NoMemory is = inr is
  memory_reached (Refuse cause) is = ⊎_elim (λ own. inl (ap is_some own.0, own.1)) (λ met. inr (at_one segments reached cause met)) is

  stuck_reached : (why : Stop) (first again : ℕ) → AtStop refusal begun segments reached why → IsReached refusal begun segments reached (stuck why first again)
  stuck_reached NoMemory first again is = inr is
  stuck_reached (Refuse cause) first again is = is

  -- behind going back
  pub fell_reached : (room : Type 0) (why : Stop) (first again last : ℕ) (k : Kind) → AtStop refusal begun segments reached why → AnswersStop room why first again last k → IsReached refusal begun segments reached k
  fell_reached room why first again last k is answers =
      ⊎_elim (λ e. subst (IsReached refusal begun segments reached) (sym e) (gone_reached why is))
      (λ rest. ⊎_elim (λ e. subst (IsReached refusal begun segments reached) (sym e) (memory_reached why is))
      (λ e. subst (IsReached refusal begun segments reached) (sym e.0) (stuck_reached why first again is)) rest) answers

  -- no area was begun
  pub begun_reached : (fault : OpFault) → AtOne segments reached → IsReached refusal begun segments reached (gone (stop_of_op fault))
  begun_reached op.NoMemory is = inr is
  begun_reached op.Fault is = inr is
  begun_reached op.Full is = inr is

-- nothing to do
pub idle_reached : (refusal : Option Cause) (begun : ℕ) (segments : List Planned) → IsReached refusal begun segments begun (kind_by refusal)
idle_reached None begun segments = refl
idle_reached (Some cause) begun segments = inl (refl, refl)

-- ---- the commit

pub commit_reached : (T : Type 0) (refusal : Option Cause) (begun : ℕ) (segments : List Planned) (reached : ℕ) (fault : CommitFault) → reached ≡ last_reached begun segments → (segments ≡ [] → ⊥) → HaltReached {T = T} refusal begun segments (Err (halt_of fault reached))
commit_reached T refusal begun segments reached commit.Before is some = inr (subst (AtOne segments) (sym is) (among_last begun segments some))
commit_reached T refusal begun segments reached commit.Undoable is some = inr (subst (AtOne segments) (sym is) (among_last begun segments some))
commit_reached T refusal begun segments reached (commit.Unknown first second) is some = is

pub halt_begins : (T : Type 0) (begun : ℕ) (segments : List Planned) (reached : ℕ) (fault : CommitFault) → reached ≡ last_reached begun segments → HaltHasBegunCommit {T = T} begun segments (Err (halt_of fault reached))
halt_begins T begun segments reached commit.Before is = is
halt_begins T begun segments reached commit.Undoable is = is
halt_begins T begun segments reached (commit.Unknown first second) is = is

-- ---- the images

module _ (F : Map) (s t : State) (first : GoesOn s t (StandsFor F)) where
  -- where a commit can't have begun
  pub none_begun : (P : Type 0) → GoesOn s t (λ d. StandsFor F d ⊎ P)
  none_begun P = weaker s t (StandsFor F) _ (λ d is. inl is) first

  pub then_begun : (u : State) (P Q : Type 0) → (P → Q) → GoesOn t u (λ d. StandsFor F d ⊎ P) → GoesOn s u (λ d. StandsFor F d ⊎ Q)
  then_begun u P Q then second = joined s t u _ (none_begun Q) (weaker t u _ _ (λ d is. ⊎_elim (λ former. inl former) (λ p. inr (then p)) is) second)

  -- any images behind it
  pub all_begun : (u : State) (P : Type 0) (R : Map → Type 0) → P → GoesOn t u R → GoesOn s u (λ d. StandsFor F d ⊎ P)
  all_begun u P R p second = joined s t u _ (none_begun P) (weaker t u R _ (λ d is. inr p) second)

-- and what goes back behind them
pub back_begun : (F : Map) (s t u : State) (P : Type 0) → GoesOn s t (λ d. StandsFor F d ⊎ P) → GoesOn t u (StandsFor F) → GoesOn s u (λ d. StandsFor F d ⊎ P)
back_begun F s t u P first back = joined s t u _ first (none_begun F t u back P)
