-- What the engine has planned while it walks, and what it answers behind the last row. (This project's own.)
use Rattle.std.specs.Prelude.{◌≡◌, ℕ, List, [], ◌∷◌, length, Option, Some, None, if◌then◌else◌}
use Rattle.mi_text.specs.Maps.{Name}
use Rattle.mi_base.specs.Machine.{Machine}
use Rattle.mi_base.specs.declared.answers.Cause.{Cause}
use Rattle.mi_base.specs.declared.answers.Cause.TheVariants.{Full}
use Rattle.mi_base.specs.declared.answers.Kind.{Kind}
use Rattle.mi_base.specs.declared.answers.Kind.TheVariants.{Done, Refused}
use Rattle.mi_source.specs.Paths.{Files}
use Rattle.mi_schema.specs.declared.typed_rows.InstallExecuteSequenceRow.{InstallExecuteSequenceRow}
use Rattle.mi_script.specs.declared.rec.Rec.{Rec}
use Rattle.mi_model.specs.World.{Given, World}
use Rattle.mi_model.specs.PhaseRows.{after_rows}
use Rattle.mi_model.specs.Walk.{Walked, walk, walked_on, ended_rows}
use Rattle.mi_model.specs.PackageOutcome.{is_room}
use Rattle.mi_model.specs.Plans.{Spells, Planned, ArePlanned}

-- the machine at the end of the last segment that has ended
abbrev pub at_last_end : Given → Walked → Machine
at_last_end g w = after_rows g.former (ended_rows w)

-- Before a row: what the loop has begun, planned and made is a walk so far, which walked on over the rest of the rows is the walk.
pub record Walking (files : Files) (g : Given) (rest : List InstallExecuteSequenceRow) (w : World) (names : List Name) (plans : List Planned) (records : List Rec) : Type 0 where
  pub so_far : Walked
  pub goes_on : walked_on so_far rest ≡ walk g
  pub given : so_far.world.given ≡ g
  pub world : so_far.world ≡ w
  pub begun : so_far.begun ≡ names
  pub unrefused : so_far.refusal ≡ None
  pub ended : ArePlanned files g.former so_far.parts plans
  pub script : Spells files (at_last_end g so_far) so_far.since records
  pub machine : w.machine ≡ after_rows (at_last_end g so_far) so_far.since

-- Behind the loop: the whole walk is planned.
pub record IsPlan (files : Files) (w : Walked) (names : List Name) (plans : List Planned) (why : Option Cause) : Type 0 where
  pub begun : w.begun ≡ names
  pub ended : ArePlanned files w.world.given.former w.parts plans
  pub refusal : w.refusal ≡ why

-- ---- what the engine answers behind the loop, where no device fails

abbrev pub kind_by : Option Cause → Kind
kind_by None = Done
kind_by (Some cause) = Refused cause

abbrev pub full_kind : Option ℕ → ℕ → Option Cause → Kind
full_kind None n why = kind_by why
full_kind (Some free) n why = Refused (Full n free)

abbrev pub full_reached : Option ℕ → ℕ → ℕ → ℕ
full_reached None first all = all
full_reached (Some free) first all = first

-- the answer and the number of begun actions, from the free room, the cost of the scripts, the begun actions, the planned segments and the refusal
abbrev pub planned_kind : Option ℕ → ℕ → List Planned → Option Cause → Kind
planned_kind free n [] why = kind_by why
planned_kind free n (p ∷ plans) why = if is_room free n then kind_by why else full_kind free n why

abbrev pub planned_reached : Option ℕ → ℕ → List Name → List Planned → ℕ
planned_reached free n names [] = length names
planned_reached free n names (p ∷ plans) = if is_room free n then length names else full_reached free p.reached (length names)
