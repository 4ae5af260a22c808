-- What was done before the rest of a run, and what is told of it.
use Rattle.std.proofs.Common.{◌≡◌, ◌⊎◌, inl, inr, ⊎_elim, ℕ, ◌≤◌, Bool, List, Option, None, Some, Ok, sym, ap, subst, ◌∙◌, arith}
use Rattle.mi_text.specs.declared.answers.Settled.{Settled}
use Rattle.mi_volume.specs.Maps.{Map}
use Rattle.mi_volume.specs.State.{State, Passes, Rose, GoesOn}
use Rattle.mi_volume.proofs.Moments.{rose_before, joined, weaker}
use Rattle.mi_undo.specs.Stands.{StandsFor}
use Rattle.mi_undo.specs.Keeps.{IsFree, Each}
use Rattle.mi_undo.specs.Room.{NeverShort}
use Rattle.mi_base.specs.declared.answers.Cause.{Cause}
use Rattle.mi_base.specs.declared.answers.Cause.TheVariants.{BadWords, VolumeFault, BadRollback, RecoveryFull, BadImage, SourceFault, Table, Launch, ErrorAction}
use Rattle.mi_base.specs.declared.answers.Place.{Place}
use Rattle.mi_base.specs.declared.answers.Place.TheVariants.{InRollback, InCommit}
use Rattle.mi_base.specs.declared.answers.Kind.{Kind}
use Rattle.mi_base.specs.declared.answers.Kind.TheVariants.{Done, Listed, Recovered, Refused, Suspended, NoMemory}
use Rattle.mi_model.specs.Causes.{BelowCount, IsDone, IsRefused, CausedRefusal, Met, MetAt, Caused, AnswersCommand}
use Rattle.mi_model.specs.Leaves.{StandsAfter, MayStand, AtPause, AtExit, Cleans}
use Rattle.mi_model.specs.Logs.{Tells, IsReport, IsLog}
use Rattle.mi_model.specs.PackageOutcome.{Outcome}
use Rattle.mi_model.specs.Words.{Command, walks}
use Rattle.mi_carry.specs.OneMap.{LeavesOne}
use Rattle.mi_commands.specs.Answers.{Begins}
use Rattle.mi_commands.specs.Looks.{Looks}
use Rattle.mi_commands.specs.Replies.{Says, SettledReads, Serves}
use Rattle.mi_commands.proofs.EndLemmas.{may_commit, below_before, looks_go, looks_recover, free_then}
use Rattle.mi_commands.proofs.OneLemmas.{one_then}

-- ---- the same outcome

done_as : (out out' : Outcome) → out' ≡ out → IsDone out' → IsDone out
done_as out out' is done = (done.0, sym (ap (λ (x : Outcome). x.end) is) ∙ done.1)

refused_as : (out out' : Outcome) → out' ≡ out → (cause : Cause) → IsRefused out' cause → IsRefused out cause
refused_as out out' is cause refused = sym (ap (λ (x : Outcome). x.end) is) ∙ refused

stands_as : (out out' : Outcome) → out' ≡ out → (d : Map) → StandsAfter out' d → StandsAfter out d
stands_as out out' is d (m, made, stands) = (m, sym (ap (λ (x : Outcome). x.end) is) ∙ made, stands)

-- where less is told, of an outcome that is the same where the volume tells what it holds
module _ (volume told told' : Type 0) (less : told → told') (of_told : told → volume) (out out' : Outcome) (is : volume → out' ≡ out) where
  -- ---- images

  pub may_stand_as : (F : Map) (rose rose' : Type 0) (kind : Kind) (d : Map) → (rose' → rose) → MayStand told' F out' rose' kind d → MayStand told F out rose kind d
  may_stand_as F rose rose' kind d f (inl stands) = inl stands
  may_stand_as F rose rose' kind d f (inr may) = inr (may_commit rose' rose f kind may.0, λ t. stands_as out out' (is (of_told t)) d (may.1 (less t)))

  pause_as : (F : Map) (place : Place) (d : Map) → AtPause told' F out' place d → AtPause told F out place d
  pause_as F InRollback d at = at
  pause_as F InCommit d (inl stands) = inl stands
  pause_as F InCommit d (inr after) = inr (λ t. stands_as out out' (is (of_told t)) d (after (less t)))

  pub exit_as : (F : Map) (kind : Kind) (d : Map) → AtExit told' F out' kind d → AtExit told F out kind d
  exit_as F Done d at = λ t. stands_as out out' (is (of_told t)) d (at (less t))
  exit_as F Listed d at = at
  exit_as F (Recovered settled) d at = at
  exit_as F (Refused cause) d at = at
  exit_as F (Suspended pause) d at = pause_as F pause.place d at
  exit_as F NoMemory d at = at

  pub reads_as : (F : Map) (kind : Kind) (h : Map) → SettledReads told' F out' kind h → SettledReads told F out kind h
  reads_as F Done h reads = λ t. let r = reads (less t) in (r.0, sym (ap (λ (x : Outcome). x.end) (is (of_told t))) ∙ r.1, r.2)
  reads_as F Listed h reads = reads
  reads_as F (Recovered settled) h reads = reads
  reads_as F (Refused cause) h reads = reads
  reads_as F (Suspended pause) h reads = tt
  reads_as F NoMemory h reads = tt

  -- ---- causes: n is an earlier count than k, and x' says that the source failed in a later step

  module _ (x x' : Type 0) (source : x' → x) where
    met_as : (fell : Type 0) (cause : Cause) → Met told' out' fell x' cause → Met told out fell x cause
    met_as fell VolumeFault met = met
    met_as fell SourceFault met = source met
    met_as fell (Table fault) met = λ t. refused_as out out' (is (of_told t)) (Table fault) (met (less t))
    met_as fell (Launch text) met = λ t. refused_as out out' (is (of_told t)) (Launch text) (met (less t))
    met_as fell (ErrorAction action text) met = λ t. refused_as out out' (is (of_told t)) (ErrorAction action text) (met (less t))
    met_as fell other met = absurd met

    met_at_as : (fell : Type 0) (place : Place) (why : Option Cause) → MetAt place told' out' fell x' why → MetAt place told out fell x why
    met_at_as fell InRollback (Some cause) met = met_as fell cause met
    met_at_as fell InRollback None met = absurd met
    met_at_as fell InCommit why met = (met.0, met.1, λ t. done_as out out' (is (of_told t)) (met.2 (less t)))

    module _ (n k m : ℕ) (le : n ≤ k) (fails fails' : Type 0) (rises : fails' → fails) where
      refusal_as : (cause : Cause) → CausedRefusal volume told' out' fails' x' cause → CausedRefusal volume told out fails x cause
      refusal_as VolumeFault c = rises c
      refusal_as SourceFault c = source c
      refusal_as (BadRollback name) c = λ v. refused_as out out' (is v) (BadRollback name) (c v)
      refusal_as (RecoveryFull name) c = λ v. refused_as out out' (is v) (RecoveryFull name) (c v)
      refusal_as (BadImage name) c = λ v. refused_as out out' (is v) (BadImage name) (c v)
      refusal_as other c = λ t. refused_as out out' (is (of_told t)) other (c (less t))

      pub caused_as : (kind : Kind) → Caused k m volume told' out' fails' x' kind → Caused n m volume told out fails x kind
      caused_as Done c = λ t. done_as out out' (is (of_told t)) (c (less t))
      caused_as Listed c = λ v. ((c v).0, sym (ap (λ (y : Outcome). y.end) (is v)) ∙ (c v).1)
      caused_as (Recovered settled) c = λ v. sym (ap (λ (y : Outcome). y.end) (is v)) ∙ c v
      caused_as (Refused cause) c = refusal_as cause c
      caused_as (Suspended pause) c = record {
        entry = omega (arith, le, c.entry);
        between = c.between;
        exit = c.exit;
        rose = c.rose;
        met = met_at_as (BelowCount pause.begun pause.again) pause.place pause.why c.met;
      }
      caused_as NoMemory c = tt

  -- ---- begun actions

  pub begins_as : (n : ℕ) (kind : Kind) → (told' → Begins out' n kind) → told → Begins out n kind
  begins_as n kind begins t = subst (λ (x : Outcome). Begins x n kind) (is (of_told t)) (begins (less t))

  -- ---- the log

  module _ (found found' : Settled → Type 0) (f : (s : Settled) → found' s → found s) (says : Bool) (n : ℕ) where
    told_refusal : (cause : Cause) (s : Settled) → Tells found' (Refused cause) s → Tells found (Refused cause) s
    told_refusal (BadWords place) s tells = tells
    told_refusal (BadRollback name) s tells = tells
    told_refusal (RecoveryFull name) s tells = tells
    told_refusal VolumeFault s tells = ⊎_elim (λ x. inl (f s x)) (λ x. inr x) tells
    told_refusal other s tells = f s tells

    tells_as : (kind : Kind) (s : Settled) → Tells found' kind s → Tells found kind s
    tells_as Done s tells = f s tells
    tells_as Listed s tells = f s tells
    tells_as (Recovered settled) s tells = f s tells
    tells_as (Refused cause) s tells = told_refusal cause s tells
    tells_as (Suspended pause) s tells = f s tells
    tells_as NoMemory s tells = f s tells

    report_as : (kind : Kind) (log : List ℕ) → IsReport told' found' says out' kind n log → IsReport told found says out kind n log
    report_as kind log r = record {
      settled = r.settled;
      begun = r.begun;
      tells = tells_as kind r.settled r.tells;
      begins = λ t. r.begins (less t) ∙ ap (λ (x : Outcome). x.begun) (is (of_told t));
      is = r.is;
    }

    log_as : (kind : Kind) (log : List ℕ) → IsLog volume told' found' says out' kind n log → IsLog volume told found says out kind n log
    log_as Done log l = report_as Done log l
    log_as Listed log l = λ v. sym (ap (λ (x : Outcome). x.end) (is v)) ∙ l v
    log_as (Recovered settled) log l = report_as (Recovered settled) log l
    log_as (Refused cause) log l = report_as (Refused cause) log l
    log_as (Suspended pause) log l = report_as (Suspended pause) log l
    log_as NoMemory log l = report_as NoMemory log l

    pub says_as : (kind : Kind) (bytes : List ℕ) → Says (IsLog volume told' found' says out' kind n) kind bytes → Says (IsLog volume told found says out kind n) kind bytes
    says_as kind bytes s = record { log = s.log; is = log_as kind s.log s.is; whole = s.whole; front = s.front }

-- ---- what is left

pub cleans_from : (s t u : State) → Passes s t → (kind : Kind) → Cleans t u kind → Cleans s u kind
cleans_from s t u pass Done c = free_then s t u pass c
cleans_from s t u pass Listed c = c
cleans_from s t u pass (Recovered settled) c = c
cleans_from s t u pass (Refused (BadWords place)) c = c
cleans_from s t u pass (Refused VolumeFault) c = c
cleans_from s t u pass (Refused (BadRollback name)) c = c
cleans_from s t u pass (Refused (RecoveryFull name)) c = c
cleans_from s t u pass (Refused other) c = free_then s t u pass c
cleans_from s t u pass (Suspended pause) c = c
cleans_from s t u pass NoMemory c = c

-- recovery has room in the rest, of the same capacity
pub recovers_from : (s t u : State) → t.capacity ≡ s.capacity → GoesOn s t (NeverShort s.capacity) → GoesOn t u (NeverShort t.capacity) → GoesOn s u (NeverShort s.capacity)
recovers_from s t u same first second = joined s t u (NeverShort s.capacity) first (subst (λ (c : Option ℕ). GoesOn t u (NeverShort c)) same second)

-- what licenses the answer of the rest licenses that of the whole
pub caused_from : (volume told told' : Type 0) (less : told → told') (of_told : told → volume) (s t u : State) (out out' : Outcome) (x x' : Type 0) → (x' → x) → (volume → out' ≡ out) → Passes s t → (kind : Kind)
    → Caused t.faults u.faults volume told' out' (Rose t u) x' kind → Caused s.faults u.faults volume told out (Rose s u) x kind
caused_from volume told told' less of_told s t u out out' x x' source is pass kind =
    caused_as volume told told' less of_told out out' is x x' source s.faults t.faults u.faults pass.faults (Rose s u) (Rose t u) (rose_before s t u pass) kind

-- Before a run that goes on from t the volume was only read.
module _ (volume told told' : Type 0) (less : told → told') (of_told : told → volume) (s t u : State) (out out' : Outcome) (command : Command) (found : Settled → Type 0) (x x' : Type 0) (source : x' → x) where
  pub serves_from : (kind : Kind) (n : ℕ) (bytes : List ℕ) → (volume → IsFree s) → (volume → Looks s t) → Passes s t → Passes t u → (volume → out' ≡ out) → Serves volume told' t u out' command found x' kind n bytes → Serves volume told s u out command found x kind n bytes
  serves_from kind n bytes free looks pass then is serves = record {
    stops = λ v.
        joined s t u (MayStand told s.held out (BelowCount s.faults u.faults) kind)
        (weaker s t (StandsFor s.held) (MayStand told s.held out (BelowCount s.faults u.faults) kind) (λ d standing. inl standing) (looks_go s t (free v) (looks v)))
        (weaker t u (MayStand told' s.held out' (BelowCount t.faults u.faults) kind) (MayStand told s.held out (BelowCount s.faults u.faults) kind)
        (λ d. may_stand_as volume told told' less of_told out out' is s.held (BelowCount s.faults u.faults) (BelowCount t.faults u.faults) kind d (below_before s.faults t.faults u.faults pass.faults then.faults))
        (subst (λ (F : Map). GoesOn t u (MayStand told' F out' (BelowCount t.faults u.faults) kind)) (looks v).stays.held (serves.stops v)));
    leaves = λ v d image. exit_as volume told told' less of_told out out' is s.held kind d (subst (λ (F : Map). Each u (AtExit told' F out' kind)) (looks v).stays.held (serves.leaves v) d image);
    reads = λ v. reads_as volume told told' less of_told out out' is s.held kind u.held (subst (λ (F : Map). SettledReads told' F out' kind u.held) (looks v).stays.held (serves.reads v));
    cleans = λ v. cleans_from s t u pass kind (serves.cleans v);
    recovers = λ v. recovers_from s t u pass.capacity (looks_recover s t (free v) (looks v)) (serves.recovers v);
    one_map = λ v.
        let one = serves.one_map v in
        (one.0, one_then s t u s.held one.0 kind pass.faults then.faults (looks_go s t (free v) (looks v)) (subst (λ (F : Map). LeavesOne t u F one.0 kind) (looks v).stays.held one.1));
    caused = caused_from volume told told' less of_told s t u out out' x x' source is pass kind serves.caused;
    answers = serves.answers;
    begins = begins_as volume told told' less of_told out out' is n kind serves.begins;
    log = says_as volume told told' less of_told out out' is found found (λ y found_is. found_is) (walks (Ok command)) n kind bytes serves.log;
  }

-- ---- the same, of another command that walks

pub serves_command : (volume told : Type 0) (s u : State) (out : Outcome) (command command' : Command) (found : Settled → Type 0) (x : Type 0) (kind : Kind) (n : ℕ) (bytes : List ℕ) → (AnswersCommand command' kind → AnswersCommand command kind) → walks (Ok command') ≡ walks (Ok command)
    → Serves volume told s u out command' found x kind n bytes → Serves volume told s u out command found x kind n bytes
serves_command volume told s u out command command' found x kind n bytes answers same serves = record {
  stops = serves.stops;
  leaves = serves.leaves;
  reads = serves.reads;
  cleans = serves.cleans;
  recovers = serves.recovers;
  one_map = serves.one_map;
  caused = serves.caused;
  answers = answers serves.answers;
  begins = serves.begins;
  log = subst (λ (b : Bool). Says (IsLog volume told found b out kind n) kind bytes) same serves.log;
}
