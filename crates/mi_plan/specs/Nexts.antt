-- The next row of a walk so far. (InstallExecuteSequence Table.)
use Rattle.std.specs.Prelude.{◌≡◌, List, Option, Some, Ok}
use Rattle.mi_text.specs.Maps.{Name}
use Rattle.mi_source.specs.Paths.{Files}
use Rattle.mi_schema.specs.declared.typed_rows.InstallExecuteSequenceRow.{InstallExecuteSequenceRow}
use Rattle.mi_script.specs.declared.rec.Rec.{Rec}
use Rattle.mi_model.specs.World.{Given, World}
use Rattle.mi_model.specs.Asked.{lookups}
use Rattle.mi_model.specs.Sequence.{next_row}
use Rattle.mi_model.specs.Steps.{Step, step_of}
use Rattle.mi_model.specs.Plans.{Planned}
use Rattle.mi_model.specs.Planning.{Walking}

abbrev pub Row : Type 0
Row = InstallExecuteSequenceRow

-- This row of those that are left is next, and its action does this.
pub record IsNext (files : Files) (g : Given) (rows : List Row) (row : Row) (behind : List Row) (w : World) (names : List Name) (plans : List Planned) (records : List Rec) (step : Step) : Type 0 where
  pub walking : Walking files g rows w names plans records
  pub next : ◌≡◌ {A = Option (Row × List Row)} (next_row (lookups w) rows) (Some (row, behind))
  pub does : step_of g.rows (lookups w) names row.action ≡ Ok step
