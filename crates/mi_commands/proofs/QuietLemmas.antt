-- Answers of a run that wrote nothing to its settled volume.
use Rattle.std.proofs.Common.{◌≡◌, ◌⊎◌, inl, ⊎_elim, ℕ, arith, Bool, List, Ok, refl, sym, subst, ◌∙◌}
use Rattle.std.proofs.Math.Seq.{take-length}
use Rattle.std.specs.Prelude.{length}
use Rattle.mi_text.specs.declared.answers.Settled.{Settled}
use Rattle.mi_volume.specs.Maps.{Map}
use Rattle.mi_volume.specs.State.{State, Rose}
use Rattle.mi_volume.proofs.Moments.{weaker}
use Rattle.mi_undo.specs.Stands.{StandsFor, outside}
use Rattle.mi_undo.specs.Keeps.{IsFree}
use Rattle.mi_base.specs.declared.answers.Cause.TheVariants.{BadWords, VolumeFault, BadRollback, RecoveryFull}
use Rattle.mi_base.specs.declared.answers.Kind.{Kind}
use Rattle.mi_base.specs.declared.answers.Kind.TheVariants.{Done, Listed, Recovered, Refused, Suspended, NoMemory}
use Rattle.mi_model.specs.Causes.{BelowCount, AnswersCommand, Caused}
use Rattle.mi_model.specs.Leaves.{MayStand, AtExit, Cleans}
use Rattle.mi_model.specs.Logs.{IsLog}
use Rattle.mi_model.specs.PackageOutcome.{Outcome}
use Rattle.mi_model.specs.Words.{Command, Package, Selftest, Clients, Products, Recover, walks}
use Rattle.mi_commands.specs.Answers.{Begins}
use Rattle.mi_commands.specs.declared.reply.Reply.{Reply}
use Rattle.mi_commands.specs.Looks.{Looks}
use Rattle.mi_commands.specs.Replies.{log_in, log_of, IsFront, WantsMemory, Says, SettledReads, Serves}
use Rattle.mi_commands.proofs.EndLemmas.{free_looks, looks_go, looks_recover, looks_leave, looks_read}
use Rattle.mi_commands.proofs.OneLemmas.{one_former}

-- an answer behind which the volume is as it was
abbrev pub IsQuiet : Kind → Type 0
IsQuiet Done = ⊥
IsQuiet Listed = Unit {0}
IsQuiet (Recovered settled) = Unit {0}
IsQuiet (Refused cause) = Unit {0}
IsQuiet (Suspended pause) = ⊥
IsQuiet NoMemory = Unit {0}

-- ---- the end of such a run

at_exit : (told : Type 0) (F : Map) (out : Outcome) (kind : Kind) → IsQuiet kind → (d : Map) → StandsFor F d → AtExit told F out kind d
at_exit told F out Done quiet d is = absurd quiet
at_exit told F out Listed quiet d is = is
at_exit told F out (Recovered settled) quiet d is = is
at_exit told F out (Refused cause) quiet d is = is
at_exit told F out (Suspended pause) quiet d is = absurd quiet
at_exit told F out NoMemory quiet d is = is

quiet_reads : (told : Type 0) (F : Map) (out : Outcome) (kind : Kind) → IsQuiet kind → (h : Map) → outside h ≡ F → SettledReads told F out kind h
quiet_reads told F out Done quiet h is = absurd quiet
quiet_reads told F out Listed quiet h is = is
quiet_reads told F out (Recovered settled) quiet h is = is
quiet_reads told F out (Refused cause) quiet h is = is
quiet_reads told F out (Suspended pause) quiet h is = absurd quiet
quiet_reads told F out NoMemory quiet h is = tt

pub quiet_cleans : (s t : State) (kind : Kind) → IsQuiet kind → IsFree t → Cleans s t kind
quiet_cleans s t Done quiet free = absurd quiet
quiet_cleans s t Listed quiet free = free
quiet_cleans s t (Recovered settled) quiet free = free
quiet_cleans s t (Refused (BadWords place)) quiet free = tt
quiet_cleans s t (Refused VolumeFault) quiet free = tt
quiet_cleans s t (Refused (BadRollback name)) quiet free = tt
quiet_cleans s t (Refused (RecoveryFull name)) quiet free = tt
quiet_cleans s t (Refused other) quiet free = inl free
quiet_cleans s t (Suspended pause) quiet free = absurd quiet
quiet_cleans s t NoMemory quiet free = tt

pub answers_memory : (command : Command) → AnswersCommand command NoMemory
answers_memory (Package recorded folder words) = tt
answers_memory (Selftest files words) = tt
answers_memory Clients = tt
answers_memory Products = tt
answers_memory Recover = tt

-- no action is begun
pub memory_begins : (out : Outcome) → Begins out 0 NoMemory
memory_begins out = record { own = λ own. absurd own; most = omega arith; begun = inl refl }

-- ---- logs

-- a whole log
pub says_whole : (is_log : List ℕ → Type 0) (kind : Kind) (bytes log : List ℕ) → bytes ≡ log → is_log log → Says is_log kind bytes
says_whole is_log kind bytes log same is = record { log = log; is = is; whole = λ memory. same; front = (length log, same ∙ sym (take-length log)) }

-- a front of one, where memory was wanted
pub says_front : (is_log : List ℕ → Type 0) (bytes log : List ℕ) → IsFront log bytes → is_log log → Says is_log NoMemory bytes
says_front is_log bytes log front is = record { log = log; is = is; whole = λ memory. absurd (memory refl); front = front }

-- the log of want of memory, whatever settling found
module _ (volume told : Type 0) (found : Settled → Type 0) (says : Bool) (out : Outcome) where
  pub memory_log : (settled : Settled) → found settled → IsLog volume told found says out NoMemory 0 (log_of says settled NoMemory)
  memory_log settled is = record { settled = settled; begun = out.begun; tells = is; begins = λ t. refl; is = refl }

module _ (volume told : Type 0) (s t : State) (out : Outcome) (command : Command) (found : Settled → Type 0) (settled : Settled) (is_found : found settled) (source_fails : Type 0) (free : volume → IsFree s) (looks : volume → Looks s t) where
  pub quiet_serves : (kind : Kind) (n : ℕ) (bytes : List ℕ) → IsQuiet kind → Caused s.faults t.faults volume told out (Rose s t) source_fails kind → AnswersCommand command kind → (told → Begins out n kind) → Says (IsLog volume told found (walks (Ok command)) out kind n) kind bytes → Serves volume told s t out command found source_fails kind n bytes
  quiet_serves kind n bytes quiet caused answers begins log = record {
    stops = λ v. weaker s t (StandsFor s.held) (MayStand told s.held out (BelowCount s.faults t.faults) kind) (λ d is. inl is) (looks_go s t (free v) (looks v));
    leaves = λ v d image. at_exit told s.held out kind quiet d (looks_leave s t (free v) (looks v) d image);
    reads = λ v. quiet_reads told s.held out kind quiet t.held (looks_read s t (free v) (looks v));
    cleans = λ v. quiet_cleans s t kind quiet (free_looks s t (free v) (looks v));
    recovers = λ v. looks_recover s t (free v) (looks v);
    one_map = λ v. (s.held, one_former s t s.held kind (looks_go s t (free v) (looks v)) (looks_leave s t (free v) (looks v)) (λ done. looks_read s t (free v) (looks v)));
    caused = caused;
    answers = answers;
    begins = begins;
    log = log;
  }

  -- this answer with its log, or want of memory with a front of its own
  pub replied : (kind : Kind) (log : List ℕ) (r : Reply) → IsQuiet kind → Caused s.faults t.faults volume told out (Rose s t) source_fails kind → AnswersCommand command kind → (told → Begins out 0 kind) → IsLog volume told found (walks (Ok command)) out kind 0 log → ((r.kind ≡ kind) × (log_in r ≡ log)) ⊎ WantsMemory (walks (Ok command)) r → r.reached ≡ 0
      → Serves volume told s t out command found source_fails r.kind r.reached (log_in r)
  replied kind log r quiet caused answers begins is_log is none = ⊎_elim
      (λ e. at kind e.0 (quiet_serves kind 0 (log_in r) quiet caused answers begins (says_whole (IsLog volume told found (walks (Ok command)) out kind 0) kind (log_in r) log e.1 is_log)))
      (λ e. at NoMemory e.0 (quiet_serves NoMemory 0 (log_in r) tt tt (answers_memory command) (λ t. memory_begins out) (says_front (IsLog volume told found (walks (Ok command)) out NoMemory 0) (log_in r) (log_of (walks (Ok command)) settled NoMemory) (e.1 settled) (memory_log volume told found (walks (Ok command)) out settled is_found))))
      is
    where
      at : (k : Kind) → r.kind ≡ k → Serves volume told s t out command found source_fails k 0 (log_in r) → Serves volume told s t out command found source_fails r.kind r.reached (log_in r)
      at k e serves = subst (λ (n : ℕ). Serves volume told s t out command found source_fails r.kind n (log_in r)) (sym none) (subst (λ (x : Kind). Serves volume told s t out command found source_fails x 0 (log_in r)) (sym e) serves)
