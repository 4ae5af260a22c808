-- What is said of a run besides the clauses of the top call: what is told where a command is carried out, when the source has failed, and
-- which answers are the outcome's own. (This project's own.)
use Rattle.std.specs.Prelude.{◌≡◌, ℕ, Result}
use Rattle.mi_source.specs.Counts.{Rose}
use Rattle.mi_base.specs.declared.answers.Cause.{Cause}
use Rattle.mi_base.specs.declared.answers.Cause.TheVariants.{VolumeFault, SourceFault}
use Rattle.mi_base.specs.declared.answers.Kind.{Kind}
use Rattle.mi_base.specs.declared.answers.Kind.TheVariants.{Refused, Suspended, NoMemory}
use Rattle.mi_model.specs.Words.{Command, Installs}
use Rattle.mi_model.specs.PackageOutcome.{Outcome}
use Rattle.mi_model.specs.Causes.{SameCount, Reaches}
use Rattle.mi_commands.specs.Begun.{HasBegun}

-- The volume tells what it holds, and where the words ask for a package of the source, so does that.
abbrev pub IsTold : Type 0 → Type 0 → Result Command ℕ → Type 0
IsTold volume source words = volume × (Installs words → source)

-- the source is told and its count stands still, where the words ask for a package of it
abbrev pub IsStill : Type 0 → Result Command ℕ → ℕ → ℕ → Type 0
IsStill source words old new = Installs words → source × SameCount old new

-- the words ask for a package of the source, and its count rose
abbrev pub SourceFails : Result Command ℕ → ℕ → ℕ → Type 0
SourceFails words old new = Installs words × Rose old new

-- ---- begun actions

abbrev pub IsOwnCause : Cause → Type 0
IsOwnCause VolumeFault = ⊥
IsOwnCause SourceFault = ⊥
IsOwnCause other = Unit {0}

-- an answer that is the outcome's own, and none of a device or of memory
abbrev pub IsOwn : Kind → Type 0
IsOwn (Refused cause) = IsOwnCause cause
IsOwn (Suspended pause) = ⊥
IsOwn NoMemory = ⊥
IsOwn other = Unit {0}

-- How many actions an answer says were begun.
pub record Begins (out : Outcome) (reached : ℕ) (kind : Kind) : Type 0 where
  pub own : IsOwn kind → reached ≡ out.reached
  pub most : Reaches out reached kind
  pub begun : HasBegun out reached kind
