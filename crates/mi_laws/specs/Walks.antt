-- What a walk is over, where it is at a row, and what it has selected. (InstallExecuteSequence Table; CostFinalize Action.)
use Rattle.std.specs.Prelude.{◌≡◌, ◌++◌, List, fold, None, IfSome, Ok}
use Rattle.mi_dirs.specs.Places.{Place}
use Rattle.mi_props.specs.Props.{Values}
use Rattle.mi_base.specs.Machine.{IsMachine}
use Rattle.mi_schema.specs.Checks.{load_fault}
use Rattle.mi_schema.specs.RowsOf.{folder_rows}
use Rattle.mi_schema.specs.declared.typed_rows.InstallExecuteSequenceRow.{InstallExecuteSequenceRow}
use Rattle.mi_model.specs.World.{Given, World, Selection}
use Rattle.mi_model.specs.ComponentRows.{choice_of}
use Rattle.mi_model.specs.Selecting.{select}
use Rattle.mi_model.specs.Sequence.{sequence}
use Rattle.mi_model.specs.Walk.{Walked, at_start, walked_row, walk}

-- the package is that of its folder, and has no fault
pub record IsLoaded (g : Given) : Type 0 where
  pub rows : g.rows ≡ folder_rows g.files g.folder
  pub right : load_fault g.files g.folder ≡ None

-- Each entry of the former machine has a record, the package loads, and its walk isn't refused: so is each walk of a run that committed.
pub record IsCommitted (g : Given) : Type 0 where
  pub former : IsMachine g.former
  pub loaded : IsLoaded g
  pub unrefused : (walk g).refusal ≡ None

-- the walk is here, after the rows in front
pub record StandsAt (g : Given) (w : Walked) : Type 0 where
  pub front : List InstallExecuteSequenceRow
  pub rest : List InstallExecuteSequenceRow
  pub rows : sequence g.rows ≡ front ++ rest
  pub walked : w ≡ fold walked_row (at_start g) front

-- a selection that CostFinalize makes over the former machine
pub record Selects (g : Given) (s : Selection) : Type 0 where
  pub props : Values
  pub dirs : List Place
  pub is : select g props dirs ≡ Ok s

abbrev pub HasSelected : Given → World → Type 0
HasSelected g w = IfSome (choice_of w) (Selects g)
