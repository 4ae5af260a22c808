-- What a command answers and leaves, with its log.
use Rattle.std.specs.Prelude.{◌≡◌, ◌≢◌, ◌⊎◌, ℕ, Bool, false, List, [], take, Option, Result, Ok, Err}
use Rattle.mi_text.specs.declared.answers.Settled.{Settled}
use Rattle.mi_volume.specs.Maps.{Map}
use Rattle.mi_volume.specs.State.{State, GoesOn, NothingDirty, Rose}
use Rattle.mi_source.specs.Paths.{Files}
use Rattle.mi_undo.specs.Stands.{stands, settled, outside}
use Rattle.mi_undo.specs.Keeps.{Each}
use Rattle.mi_undo.specs.Room.{NeverShort}
use Rattle.mi_undo.specs.Short.{IsShort}
use Rattle.mi_base.specs.Machine.{Machine, volume_of}
use Rattle.mi_base.specs.declared.answers.Kind.{Kind}
use Rattle.mi_base.specs.declared.answers.Kind.TheVariants.{Done, Listed, Recovered, Refused, Suspended, NoMemory}
use Rattle.mi_model.specs.Causes.{BelowCount, AnswersCommand, AnswersWords, Caused}
use Rattle.mi_model.specs.Leaves.{MayStand, AtExit, ReadsAfter, Cleans}
use Rattle.mi_model.specs.Logs.{IsLog}
use Rattle.mi_model.specs.Outcome.{Handed}
use Rattle.mi_model.specs.PackageOutcome.{Outcome}
use Rattle.mi_model.specs.PackageOutcome as o
use Rattle.mi_model.specs.Report.{report_of}
use Rattle.mi_model.specs.Words.{Command, walks}
use Rattle.mi_report.specs.WalkLogs.{log_text}
use Rattle.mi_commands.specs.declared.reply.Reply.{Reply}
use Rattle.mi_carry.specs.OneMap.{LeavesOne}
use Rattle.mi_commands.specs.Answers.{Begins}

-- ---- logs

-- the whole log of a reply
abbrev pub log_in : Reply → List ℕ
log_in r = log_text r.log

-- the log of an answer, without begun actions
abbrev pub log_of : Bool → Settled → Kind → List ℕ
log_of says settled kind = report_of kind settled says [] 0

-- these bytes are the first of a text
abbrev pub IsFront : List ℕ → List ℕ → Type 0
IsFront text bytes = (n : ℕ) × (bytes ≡ take n text)

-- want of memory with a front of its log, whatever settling found
abbrev pub WantsMemory : Bool → Reply → Type 0
WantsMemory says r = (r.kind ≡ NoMemory) × ((found : Settled) → IsFront (log_of says found NoMemory) (log_in r))

-- this answer with its log, or want of memory; no action is begun
pub record Replies (says : Bool) (settled : Settled) (kind : Kind) (r : Reply) : Type 0 where
  pub answers : ((r.kind ≡ kind) × (log_in r ≡ log_of says settled kind)) ⊎ WantsMemory says r
  pub reached : r.reached ≡ 0

-- a listing, or want of memory
pub record Lists (text : List ℕ) (r : Reply) : Type 0 where
  pub answers : ((r.kind ≡ Listed) × (log_in r ≡ text)) ⊎ WantsMemory false r
  pub reached : r.reached ≡ 0

-- These bytes are a log of the answer, or a front of one where memory was wanted.
pub record Says (is_log : List ℕ → Type 0) (kind : Kind) (bytes : List ℕ) : Type 0 where
  pub log : List ℕ
  pub is : is_log log
  pub whole : kind ≢ NoMemory → bytes ≡ log
  pub front : IsFront log bytes

-- ---- a command on a settled volume

-- what a run is handed beside what its volume holds: the source's files, the volume's capacity, the moment, and what settling found of the volume
pub record IsHanded (volume : Type 0) (h : Handed) (files : Files) (capacity : Option ℕ) (now : ℕ) (found : Settled) : Type 0 where
  pub same_files : h.files ≡ files
  pub same_capacity : h.capacity ≡ capacity
  pub same_now : h.now ≡ now
  pub finds : volume → settled h.held ≡ found

-- what reads give behind it, where F was held
abbrev pub SettledReads : Type 0 → Map → Outcome → Kind → Map → Type 0
SettledReads told F out Done h = told → (m : Machine) × (out.end ≡ o.Done m) × (outside h ≡ volume_of m)
SettledReads told F out Listed h = outside h ≡ F
SettledReads told F out (Recovered settled) h = outside h ≡ F
SettledReads told F out (Refused cause) h = outside h ≡ F
SettledReads told F out (Suspended pause) h = Unit {0}
SettledReads told F out NoMemory h = Unit {0}

-- What a command leaves on a volume that is settled. `volume` says that the volume tells what it holds, `told` that it does, and the source
-- too where the command looks at it, and `source_fails` that the source's count rose.
pub record Serves (volume told : Type 0) (old new : State) (out : Outcome) (command : Command) (found : Settled → Type 0) (source_fails : Type 0) (kind : Kind) (reached : ℕ) (bytes : List ℕ) : Type 0 where
  pub stops : volume → GoesOn old new (MayStand told old.held out (BelowCount old.faults new.faults) kind)
  pub leaves : volume → Each new (AtExit told old.held out kind)
  pub reads : volume → SettledReads told old.held out kind new.held
  pub one_map : volume → (A : Map) × LeavesOne old new old.held A kind
  pub cleans : volume → Cleans old new kind
  pub recovers : volume → GoesOn old new (NeverShort old.capacity)
  pub caused : Caused old.faults new.faults volume told out (Rose old new) source_fails kind
  pub answers : AnswersCommand command kind
  pub begins : told → Begins out reached kind
  pub log : Says (IsLog volume told found (walks (Ok command)) out kind reached) kind bytes

-- ---- a run on any volume

-- What a run leaves, whatever it comes to.
pub record Leaves (volume : Type 0) (old new : State) (words : Result Command ℕ) (kind : Kind) : Type 0 where
  pub unread : volume → NothingDirty old → (bad : List ℕ) → stands old.held ≡ Err bad → GoesOn old new (λ d. d ≡ old.held)
  pub unread_stays : volume → (bad : List ℕ) → stands old.held ≡ Err bad → new.held ≡ old.held
  pub cleans : volume → Cleans old new kind
  pub recovers : volume → NothingDirty old → ((name : List ℕ) → ¬ IsShort old.capacity old.held name) → GoesOn old new (NeverShort old.capacity)
  pub one_map : volume → NothingDirty old → (F : Map) → stands old.held ≡ Ok F → (A : Map) × LeavesOne old new F A kind
  pub answers : AnswersWords words kind

-- What a run leaves that comes to this outcome.
pub record Runs (volume told : Type 0) (old new : State) (out : Outcome) (words : Result Command ℕ) (source_fails : Type 0) (kind : Kind) (reached : ℕ) (bytes : List ℕ) : Type 0 where
  pub stops : volume → NothingDirty old → (F : Map) → stands old.held ≡ Ok F → GoesOn old new (MayStand told F out (BelowCount old.faults new.faults) kind)
  pub leaves : volume → NothingDirty old → (F : Map) → stands old.held ≡ Ok F → Each new (AtExit told F out kind)
  pub reads : volume → (F : Map) → stands old.held ≡ Ok F → ReadsAfter told old.held F out kind new.held
  pub caused : Caused old.faults new.faults volume told out (Rose old new) source_fails kind
  pub begins : told → Begins out reached kind
  pub log : Says (IsLog volume told (λ s. volume → s ≡ settled old.held) (walks words) out kind reached) kind bytes
