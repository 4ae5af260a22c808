-- The log of a command (this project's own).
use Rattle.std.specs.Prelude.{ℕ, Bool, true, false, List, [], ◌++◌, take}
use Rattle.std.specs.List.{flat_map}
use Rattle.mi_text.specs.declared.answers.Settled.{Settled}
use Rattle.mi_base.specs.declared.answers.Kind.{Kind}
use Rattle.mi_base.specs.declared.answers.Kind.TheVariants.{Done, Listed, Recovered, Refused, Suspended, NoMemory}
use Rattle.mi_model.specs.Lines.{recovered_line, action_line, result_line}

-- a run that walks over its sequence says what settling gave and which actions it has begun
abbrev pub walk_lines : Bool → Settled → List (List ℕ) → List ℕ
walk_lines false settled begun = []
walk_lines true settled begun = recovered_line settled ++ flat_map action_line begun

-- a listing has its own lines alone
abbrev pub last_line : Kind → List ℕ
last_line Done = result_line Done
last_line Listed = []
last_line (Recovered settled) = result_line (Recovered settled)
last_line (Refused cause) = result_line (Refused cause)
last_line (Suspended pause) = result_line (Suspended pause)
last_line NoMemory = result_line NoMemory

-- the log of a command that answers this: `walks` says that it walks over its sequence, and of the begun actions the
-- first so many are written
abbrev pub report_of : Kind → Settled → Bool → List (List ℕ) → ℕ → List ℕ
report_of kind settled walks begun reached = walk_lines walks settled (take reached begun) ++ last_line kind
