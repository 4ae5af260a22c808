-- Which answers a run may give, and what licenses each, over the outcome of a whole run. (Rollback Installation; the answers are this project's own.)
use Rattle.std.specs.Prelude.{◌≡◌, ◌⊎◌, ℕ, ◌-◌, ◌^◌, ◌<◌, ◌≤◌, List, length, Option, Some, None, Result, Ok, Err}
use Rattle.mi_base.specs.Machine.{Machine}
use Rattle.mi_base.specs.declared.answers.Cause.{Cause}
use Rattle.mi_base.specs.declared.answers.Cause.TheVariants.{BadWords, VolumeFault, BadRollback, RecoveryFull, BadImage, SourceFault, Table, Launch, ErrorAction}
use Rattle.mi_base.specs.declared.answers.Kind.{Kind}
use Rattle.mi_base.specs.declared.answers.Kind.TheVariants.{Done, Listed, Recovered, Refused, Suspended, NoMemory}
use Rattle.mi_base.specs.declared.answers.Place.{Place}
use Rattle.mi_base.specs.declared.answers.Place.TheVariants.{InRollback, InCommit}
use Rattle.mi_base.specs.declared.answers.Pause.{Pause}
use Rattle.mi_model.specs.Words.{Command, Package, Selftest, Clients, Products, Recover}
use Rattle.mi_model.specs.PackageOutcome.{Outcome, kind_of}
use Rattle.mi_model.specs.PackageOutcome as o

-- the second count is above the first, or the first stands at the last value of its counter
abbrev pub BelowCount : ℕ → ℕ → Type 0
BelowCount n m = n < 2 ^ 64 - 1 → n < m

-- a count that didn't rise, and doesn't stand at the last value of its counter
abbrev pub SameCount : ℕ → ℕ → Type 0
SameCount old new = (new ≡ old) × (old < 2 ^ 64 - 1)

-- ---- which answers the words allow, whatever the devices tell

abbrev pub IsNotWords : Cause → Type 0
IsNotWords (BadWords place) = ⊥
IsNotWords other = Unit {0}

-- a refusal that comes before the command is carried out
abbrev pub IsBefore : Cause → Type 0
IsBefore VolumeFault = Unit {0}
IsBefore (BadRollback name) = Unit {0}
IsBefore (RecoveryFull name) = Unit {0}
IsBefore (BadImage name) = Unit {0}
IsBefore other = ⊥

-- a run that walks over its sequence
abbrev pub AnswersWalk : Kind → Type 0
AnswersWalk Done = Unit {0}
AnswersWalk (Suspended pause) = Unit {0}
AnswersWalk (Refused cause) = IsNotWords cause
AnswersWalk NoMemory = Unit {0}
AnswersWalk other = ⊥

abbrev pub AnswersList : Kind → Type 0
AnswersList Listed = Unit {0}
AnswersList (Refused cause) = IsBefore cause
AnswersList NoMemory = Unit {0}
AnswersList other = ⊥

abbrev pub AnswersRecovery : Kind → Type 0
AnswersRecovery (Recovered settled) = Unit {0}
AnswersRecovery (Refused cause) = IsBefore cause
AnswersRecovery NoMemory = Unit {0}
AnswersRecovery other = ⊥

abbrev pub AnswersCommand : Command → Kind → Type 0
AnswersCommand (Package recorded folder words) = AnswersWalk
AnswersCommand (Selftest files words) = AnswersWalk
AnswersCommand Clients = AnswersList
AnswersCommand Products = AnswersList
AnswersCommand Recover = AnswersRecovery

-- words have a command, or a first word that is refused
abbrev pub AnswersWords : Result Command ℕ → Kind → Type 0
AnswersWords (Ok command) kind = AnswersCommand command kind
AnswersWords (Err place) kind = (kind ≡ Refused (BadWords place)) ⊎ (kind ≡ NoMemory)

-- ---- causes. `volume` says that the volume tells what it holds; `told` that it does, and the source too where the command
-- looks at it; `volume_fails` and `source_fails` that this device's count rose.

-- the run makes a machine
abbrev pub IsDone : Outcome → Type 0
IsDone out = (m : Machine) × (out.end ≡ o.Done m)

abbrev pub IsRefused : Outcome → Cause → Type 0
IsRefused out cause = out.end ≡ o.Refused cause

-- What settling and the image refuse comes by the volume alone.
abbrev pub CausedRefusal : Type 0 → Type 0 → Outcome → Type 0 → Type 0 → Cause → Type 0
CausedRefusal volume told out volume_fails source_fails VolumeFault = volume_fails
CausedRefusal volume told out volume_fails source_fails SourceFault = source_fails
CausedRefusal volume told out volume_fails source_fails (BadRollback name) = volume → IsRefused out (BadRollback name)
CausedRefusal volume told out volume_fails source_fails (RecoveryFull name) = volume → IsRefused out (RecoveryFull name)
CausedRefusal volume told out volume_fails source_fails (BadImage name) = volume → IsRefused out (BadImage name)
CausedRefusal volume told out volume_fails source_fails cause = told → IsRefused out cause

-- A refusal that a run met while it carried out its walk: `fell` says that the volume's count rose before its rollback.
abbrev pub Met : Type 0 → Outcome → Type 0 → Type 0 → Cause → Type 0
Met told out fell source_fails VolumeFault = fell
Met told out fell source_fails SourceFault = source_fails
Met told out fell source_fails (Table fault) = told → IsRefused out (Table fault)
Met told out fell source_fails (Launch text) = told → IsRefused out (Launch text)
Met told out fell source_fails (ErrorAction action text) = told → IsRefused out (ErrorAction action text)
Met told out fell source_fails other = ⊥

-- why a run was suspended
abbrev pub MetAt : Place → Type 0 → Outcome → Type 0 → Type 0 → Option Cause → Type 0
MetAt InRollback told out fell source_fails (Some cause) = Met told out fell source_fails cause
MetAt InRollback told out fell source_fails None = ⊥
MetAt InCommit told out fell source_fails why = (why ≡ None) × fell × (told → IsDone out)

-- The counts that a suspended run tells: n is the volume's at the entry, m that at the exit. In the rollback `begun` is that when the
-- run began to write, and `again` that when it began to go back; in the commit those before the commit write and before the area was opened anew.
pub record Paused (n m : ℕ) (told : Type 0) (out : Outcome) (source_fails : Type 0) (pause : Pause) : Type 0 where
  pub entry : n ≤ pause.begun
  pub between : pause.begun ≤ pause.again
  pub exit : pause.again ≤ m
  pub rose : BelowCount pause.again m
  pub met : MetAt pause.place told out (BelowCount pause.begun pause.again) source_fails pause.why

-- Each answer comes only for its cause.
abbrev pub Caused : ℕ → ℕ → Type 0 → Type 0 → Outcome → Type 0 → Type 0 → Kind → Type 0
Caused n m volume told out volume_fails source_fails Done = told → IsDone out
Caused n m volume told out volume_fails source_fails Listed = volume → (text : List ℕ) × (out.end ≡ o.Listed text)
Caused n m volume told out volume_fails source_fails (Recovered settled) = volume → out.end ≡ o.Recovered settled
Caused n m volume told out volume_fails source_fails (Refused cause) = CausedRefusal volume told out volume_fails source_fails cause
Caused n m volume told out volume_fails source_fails (Suspended pause) = Paused n m told out source_fails pause
Caused n m volume told out volume_fails source_fails NoMemory = Unit {0}

-- ---- completeness

-- the outcome's own answer, with its begun actions, or want of memory
abbrev pub Completes : Outcome → Kind → ℕ → Type 0
Completes out kind reached = ((kind ≡ kind_of out.end) × (reached ≡ out.reached)) ⊎ (kind ≡ NoMemory)

-- how many actions an answer says were begun, also where a count rose
abbrev pub Reaches : Outcome → ℕ → Kind → Type 0
Reaches out reached Done = reached ≡ out.reached
Reaches out reached Listed = reached ≡ 0
Reaches out reached (Recovered settled) = reached ≡ 0
Reaches out reached other = reached ≤ length out.begun
