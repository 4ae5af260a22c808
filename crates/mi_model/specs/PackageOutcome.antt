-- What a run of a package comes to, where no device fails. (Installation; Rollback Installation. The order of refusals is this project's
-- own: package, product, walk up to the end of its first segment, room, the rest of the walk.)
use Rattle.std.specs.Prelude.{ℕ, nat_lt, not, ◌&&◌, Bool, true, List, [], ◌∷◌, length, Option, Some, None, if◌then◌else◌}
use Rattle.mi_text.specs.Maps.{Name}
use Rattle.mi_text.specs.declared.answers.Settled.{Settled}
use Rattle.mi_source.specs.Paths.{Files}
use Rattle.mi_base.specs.Machine.{Machine}
use Rattle.mi_base.specs.declared.answers.Fault.{Fault}
use Rattle.mi_schema.specs.Checks.{load_fault}
use Rattle.mi_base.specs.declared.answers.Kind.{Kind}
use Rattle.mi_base.specs.declared.answers.Kind.TheVariants as kind
use Rattle.mi_base.specs.declared.answers.Cause.{Cause}
use Rattle.mi_base.specs.declared.answers.Cause.TheVariants.{Table, UnknownProduct, Full}
use Rattle.mi_model.specs.World.{Given}
use Rattle.mi_schema.specs.TableRows.{product_code}
use Rattle.mi_model.specs.Settings.{is_recorded}
use Rattle.mi_schema.specs.RowsOf.{folder_rows}
use Rattle.mi_model.specs.Walk.{Part, Walked, walk, last_machine}
use Rattle.mi_model.specs.Cost.{need}
use Rattle.mi_model.specs.Assignments.{Assigned}

-- What a run comes to, where no device fails.
pub data End : Type 0 where
  -- the machine after
  Done : (machine : Machine) → End
  -- the lines of a listing
  Listed : (text : List ℕ) → End
  -- what settling found
  Recovered : (found : Settled) → End
  Refused : (cause : Cause) → End

pub record Outcome : Type 0 where
  pub end : End
  -- the actions that the walk begins, and how many of them the run reaches
  pub begun : List Name
  pub reached : ℕ

-- the answer of an end
abbrev pub kind_of : End → Kind
kind_of (Done machine) = kind.Done
kind_of (Listed text) = kind.Listed
kind_of (Recovered found) = kind.Recovered found
kind_of (Refused cause) = kind.Refused cause

-- ---- the walk

-- without a walk
abbrev pub only : End → Outcome
only e = record { end = e; begun = []; reached = 0 }

abbrev pub by_refusal : Walked → Option Cause → End
by_refusal w None = Done (last_machine w)
by_refusal w (Some cause) = Refused cause

-- the walk goes to its end
abbrev pub whole : Walked → Outcome
whole w = record { end = by_refusal w w.refusal; begun = w.begun; reached = length w.begun }

-- without a capacity there is always room
abbrev pub is_room : Option ℕ → ℕ → Bool
is_room None n = true
is_room (Some free) n = not (nat_lt free n)

-- the run ends where the first segment does: there is too little room
abbrev pub full : Option ℕ → ℕ → Walked → Part → Outcome
full None n w first = whole w
full (Some free) n w first = record { end = Refused (Full n free); begun = w.begun; reached = first.reached }

-- Room is asked for before the first segment is carried out; a refusal before that end comes first, one behind it comes then.
abbrev pub by_parts : Option ℕ → Walked → List Part → Outcome
by_parts free w [] = whole w
by_parts free w (first ∷ parts) =
    let n = need w.world.given.former w.parts in
    if is_room free n then whole w else full free n w first

unfoldable pub of_walk : Option ℕ → Walked → Outcome
of_walk free w = by_parts free w w.parts

-- ---- the package

-- where the product has to be recorded and isn't, the run is refused
abbrev pub of_given : Option ℕ → Bool → Given → Outcome
of_given free recorded g =
    if recorded && not (is_recorded g.rows g.former) then only (Refused (UnknownProduct (record { number = product_code g.rows })))
    else of_walk free (walk g)

-- a package with a fault isn't walked over
abbrev pub of_loaded : Option Fault → Outcome → Outcome
of_loaded (Some fault) o = only (Refused (Table fault))
of_loaded None o = o

-- what a package is walked over
abbrev pub given_of : Files → Name → Assigned → Machine → ℕ → Given
given_of files folder words m now = record {
  rows = folder_rows files folder;
  folder = folder;
  words = words;
  files = files;
  former = m;
  now = now;
}

-- the package of a folder: its first fault, or what its walk comes to; `recorded` says that the product has to be
abbrev pub of_package : Files → Option ℕ → ℕ → Machine → Bool → Name → Assigned → Outcome
of_package files free now m recorded folder words = of_loaded (load_fault files folder) (of_given free recorded (given_of files folder words m now))
