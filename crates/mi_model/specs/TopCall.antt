-- What the clauses of the top call are said of: what a run is handed, and what its devices report of what they hold. (Rollback
-- Installation; this project's own.)
use Rattle.std.specs.Prelude.{ℕ, List}
use Rattle.mi_volume.specs.State.{State}
use Rattle.mi_source.specs.Paths.{Files}
use Rattle.mi_model.specs.Texts.{Text}
use Rattle.mi_model.specs.Words.{command_of, Installs}
use Rattle.mi_model.specs.Outcome.{Handed}
use Rattle.mi_model.specs.Causes.{SameCount}

-- what a run is handed
abbrev pub handed : List Text → Files → State → ℕ → Handed
handed words files vol now = record { words = words; files = files; held = vol.held; capacity = vol.capacity; now = now }

-- The volume reports what it holds, and if the command looks at the source, so does that.
abbrev pub IsTold : Type 0 → Type 0 → List Text → Type 0
IsTold volume source words = volume × (Installs (command_of words) → source)

-- the source reports what it holds and its count doesn't change, if the command looks at it
abbrev pub IsStill : Type 0 → List Text → ℕ → ℕ → Type 0
IsStill source words old new = Installs (command_of words) → source × SameCount old new
