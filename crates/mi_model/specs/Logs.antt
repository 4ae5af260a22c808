-- Which log belongs to an answer. (This project's own.)
use Rattle.std.specs.Prelude.{◌≡◌, ◌≢◌, ◌⊎◌, ℕ, Bool, false, List, ◌++◌, take}
use Rattle.mi_text.specs.Maps.{Name}
use Rattle.mi_text.specs.declared.answers.Settled.{Settled}
use Rattle.mi_text.specs.declared.answers.Settled.TheVariants.{Clean}
use Rattle.mi_base.specs.declared.answers.Cause.{Cause}
use Rattle.mi_base.specs.declared.answers.Cause.TheVariants.{BadWords, VolumeFault, BadRollback, RecoveryFull}
use Rattle.mi_base.specs.declared.answers.Kind.{Kind}
use Rattle.mi_base.specs.declared.answers.Kind.TheVariants.{Listed, Refused, NoMemory}
use Rattle.mi_model.specs.PackageOutcome.{Outcome}
use Rattle.mi_model.specs.Report.{report_of}
use Rattle.mi_model.specs.PackageOutcome as o

-- ---- the log

abbrev pub RefusalTells : (Settled → Type 0) → Cause → Settled → Type 0
RefusalTells found (BadWords place) settled = settled ≡ Clean
RefusalTells found (BadRollback name) settled = settled ≡ Clean
RefusalTells found (RecoveryFull name) settled = settled ≡ Clean
RefusalTells found VolumeFault settled = found settled ⊎ (settled ≡ Clean)
RefusalTells found other settled = found settled

-- What a log says that settling found: a run that was refused by its words or while settling says nothing, and one that met a fault of
-- the volume may.
abbrev pub Tells : (Settled → Type 0) → Kind → Settled → Type 0
Tells found (Refused cause) settled = RefusalTells found cause settled
Tells found other settled = found settled

-- The whole log of an answer: `found` says what settling found, and `says` whether the command walks over its sequence.
pub record IsReport (told : Type 0) (found : Settled → Type 0) (says : Bool) (out : Outcome) (kind : Kind) (reached : ℕ) (log : List ℕ) : Type 0 where
  pub settled : Settled
  pub begun : List Name
  pub tells : Tells found kind settled
  pub begins : told → begun ≡ out.begun
  pub is : log ≡ report_of kind settled says begun reached

abbrev pub IsLog : Type 0 → Type 0 → (Settled → Type 0) → Bool → Outcome → Kind → ℕ → List ℕ → Type 0
IsLog volume told found says out Listed reached log = volume → out.end ≡ o.Listed log
IsLog volume told found says out kind reached log = IsReport told found says out kind reached log

-- a front of the log is written
abbrev pub WritesFront : List ℕ → List ℕ → List ℕ → Type 0
WritesFront log old new = (n : ℕ) × (new ≡ old ++ take n log)

-- The log is written; where the sink has failed, or memory was wanted, a front of it.
pub record Logs (is_log : List ℕ → Type 0) (kind : Kind) (log_lost : Bool) (old new : List ℕ) : Type 0 where
  pub log : List ℕ
  pub is : is_log log
  pub whole : log_lost ≡ false → kind ≢ NoMemory → new ≡ old ++ log
  pub front : WritesFront log old new
