-- The walk over the sequence: what it begins, what its segments touch, and how it ends.
-- (InstallExecuteSequence Table; InstallInitialize Action; InstallExecute Action; InstallFinalize Action.)
use Rattle.std.specs.Prelude.{ℕ, ◌&&◌, List, [], ◌∷◌, ◌++◌, fold, length, Option, Some, None, is_none, Result, Ok, Err, if◌then◌else◌}
use Rattle.std.specs.List.{flat_map}
use Rattle.mi_text.specs.Maps.{Name}
use Rattle.mi_base.specs.Machine.{Machine}
use Rattle.mi_schema.specs.declared.typed_rows.InstallExecuteSequenceRow.{InstallExecuteSequenceRow}
use Rattle.mi_base.specs.declared.answers.Fault.{Fault}
use Rattle.mi_base.specs.declared.answers.Fault.TheVariants.{NoFinalize}
use Rattle.mi_base.specs.declared.answers.Cause.{Cause}
use Rattle.mi_base.specs.declared.answers.Cause.TheVariants.{Table, ErrorAction}
use Rattle.mi_model.specs.World.{Given, World}
use Rattle.mi_model.specs.Asked.{lookups}
use Rattle.mi_model.specs.Properties.{started, cost, set_dir, set_property}
use Rattle.mi_model.specs.Conditions.{holds}
use Rattle.mi_model.specs.Sequence.{sequence, is_inside}
use Rattle.mi_model.specs.Steps.{Step, Plain, Launch, Cost, Runs, Ends, SetProperty, SetDirectory, Fails, step_of}
use Rattle.mi_model.specs.LaunchConditions.{launch_refusal}
use Rattle.mi_model.specs.PhaseRows.{Touches, after_rows, phase_rows}

-- ---- the walk so far

-- What a segment touches, row by row, and how many actions are begun at its end.
pub record Part : Type 0 where
  pub rows : List Touches
  pub reached : ℕ

pub record Walked : Type 0 where
  pub world : World
  -- the begun actions, the refused one among them
  pub begun : List Name
  -- the segments that have ended, and the rows since
  pub parts : List Part
  pub since : List Touches
  -- what ended the walk
  pub refusal : Option Cause

-- before the first row
unfoldable pub at_start : Given → Walked
at_start g = record { world = started g; begun = []; parts = []; since = []; refusal = None }

abbrev pub refused : Cause → Walked → Walked
refused cause w = record w { refusal = Some cause }

abbrev pub or_refused : {A : Type 0} → Result A Fault → (A → Walked) → Walked → Walked
or_refused (Ok x) next w = next x
or_refused (Err fault) next w = refused (Table fault) w

-- ---- one action

abbrev pub with_world : Walked → World → Walked
with_world w world = record w { world = world }

abbrev pub with_rows : Walked → List Touches → Walked
with_rows w rows = let world = w.world in record w { world = record world { machine = after_rows world.machine rows }; since = w.since ++ rows }

-- the rows since the last segment are one
abbrev pub ended : Walked → Walked
ended w = record w { parts = w.parts ++ record { rows = w.since; reached = length w.begun } ∷ []; since = [] }

abbrev pub unless_refused : Option Cause → Walked → Walked
unless_refused None w = w
unless_refused (Some cause) w = refused cause w

-- what a step makes of the walk
abbrev pub taken : Name → Walked → Step → Walked
taken action w Plain = w
taken action w Launch = unless_refused (launch_refusal w.world.given.rows (lookups w.world)) w
taken action w Cost = or_refused (cost w.world) (with_world w) w
taken action w (Runs effect) = or_refused (phase_rows effect w.world) (with_rows w) w
taken action w Ends = ended w
taken action w (SetProperty name text) = or_refused (set_property action name text w.world) (with_world w) w
taken action w (SetDirectory directory text) = or_refused (set_dir directory text w.world) (with_world w) w
taken action w (Fails text) = refused (ErrorAction action text) w

abbrev pub begin : Name → Walked → Walked
begin action w = record w { begun = w.begun ++ action ∷ [] }

-- an action is begun, whether or not it is refused then
abbrev pub acted : Name → Walked → Walked
acted action w = or_refused (step_of w.world.given.rows (lookups w.world) w.begun action) (taken action (begin action w)) (begin action w)

-- ---- the rows of the sequence

-- a row is passed over where its condition is false, and behind a refusal
unfoldable pub walked_row : Walked → InstallExecuteSequenceRow → Walked
walked_row w r = if is_none w.refusal && holds (lookups w.world) r.condition then acted r.action w else w

-- the rows may not end after InstallInitialize without InstallFinalize
abbrev pub at_end : Walked → Walked
at_end w = if is_none w.refusal && is_inside w.begun then refused (Table NoFinalize) w else w

-- the rest of the rows, from a walk so far
unfoldable pub walked_on : Walked → List InstallExecuteSequenceRow → Walked
walked_on w rows = at_end (fold walked_row w rows)

-- the whole walk
unfoldable pub walk : Given → Walked
walk g = walked_on (at_start g) (sequence g.rows)

-- ---- its machines

-- the rows of the segments that have ended
abbrev pub ended_rows : Walked → List Touches
ended_rows w = flat_map (λ (p : Part). p.rows) w.parts

-- the machines at the ends of the segments, behind the one before them
abbrev pub machines_from : Machine → List Part → List Machine
machines_from m [] = m ∷ []
machines_from m (p ∷ parts) = m ∷ machines_from (after_rows m p.rows) parts

abbrev pub machines : Walked → List Machine
machines w = machines_from w.world.given.former w.parts

-- the last of them
unfoldable pub last_machine : Walked → Machine
last_machine w = after_rows w.world.given.former (ended_rows w)
