-- What a walk leaves: the machine before it, with the touches of its parts. (InstallExecuteSequence Table; InstallExecute Action;
-- InstallFinalize Action.)
use Rattle.std.specs.Prelude.{◌≡◌, ◌++◌, List, Some}
use Rattle.std.specs.FinMap.{get}
use Rattle.mi_text.specs.Maps.{Name}
use Rattle.mi_base.specs.declared.answers.Cause.{Cause}
use Rattle.mi_schema.specs.declared.typed_rows.InstallExecuteSequenceRow.{InstallExecuteSequenceRow}
use Rattle.mi_changes.specs.Touches.{left_at}
use Rattle.mi_model.specs.World.{Given}
use Rattle.mi_model.specs.PhaseRows.{after_rows}
use Rattle.mi_model.specs.Plans.{all_touches}
use Rattle.mi_model.specs.Walk.{Walked, ended_rows, walk, walked_on, last_machine}

-- A walk so far is over what it was given, and its machine is the former one with the rows of its segments and those since.
pub record WalksOver (g : Given) (w : Walked) : Type 0 where
  pub given : w.world.given ≡ g
  pub machine : w.world.machine ≡ after_rows g.former (ended_rows w ++ w.since)

pub record WalkTouches : Type 0 where
  pub whole : (g : Given) → WalksOver g (walk g)
  -- what stands at a name at the end of the last segment: what the touches of the segments leave there, in order
  pub last : (g : Given) (q : Name) → get (last_machine (walk g)) q ≡ left_at q (all_touches (ended_rows (walk g))) (get g.former q)
  -- behind a refusal no row is begun, and nothing is touched
  pub refused : (w : Walked) (cause : Cause) (rows : List InstallExecuteSequenceRow) → w.refusal ≡ Some cause → walked_on w rows ≡ w
