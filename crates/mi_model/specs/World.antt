-- What an action of the walk sees, and what the rows of a phase are. (InstallExecuteSequence Table; Feature Table; Component Table.)
use Rattle.std.specs.Prelude.{ℕ, List, Option, Result}
use Rattle.mi_text.specs.Maps.{Name}
use Rattle.mi_base.specs.Machine.{Machine}
use Rattle.mi_source.specs.Paths.{Files}
use Rattle.mi_props.specs.Props.{Value, Values}
use Rattle.mi_dirs.specs.Places.{Place}
use Rattle.mi_fver.specs.declared.mode.Mode.{Mode}
use Rattle.mi_model.specs.Texts.{Text}
use Rattle.mi_base.specs.declared.answers.Fault.{Fault}
use Rattle.mi_schema.specs.TableRows.{Rows}
use Rattle.mi_changes.specs.Touches.{Touch}
use Rattle.mi_base.specs.declared.entry.Entry.{Entry}

-- ---- the selection (Feature Table; Component Table)

-- What is asked of a feature.
pub data Request : Type 0 where
  Local : Request
  Absent : Request
  Reinstall : Request

-- What is done to a component.
pub data Action : Type 0 where
  MakeLocal : Action
  MakeAbsent : Action

-- What the features and components come to, in key order.
pub record Selection : Type 0 where
  pub requests : List (Name × Option Request)
  -- the features that are installed after the run
  pub local_after : List Name
  pub actions : List (Name × Option Action)
  -- the components that the run installs, those that it removes, and those whose things stay
  pub coming : List Name
  pub leaving : List Name
  pub kept : List Name
  -- the key path of each component
  pub key_paths : List (Name × Text)
  -- the letters of REINSTALLMODE
  pub mode : Mode

-- ---- the world of an action

-- What a walk is over; it never changes.
pub record Given : Type 0 where
  pub rows : Rows
  -- the package's folder in the source
  pub folder : Name
  -- the properties of the command line
  pub words : List (Name × Value)
  pub files : Files
  -- the machine before the run
  pub former : Machine
  -- the moment that new files carry, in seconds
  pub now : ℕ

-- What CostFinalize resolves.
pub record Costed : Type 0 where
  pub dirs : List Place
  pub choice : Selection

-- What an action sees.
pub record World : Type 0 where
  pub given : Given
  pub props : Values
  pub costed : Option Costed
  -- the machine so far
  pub machine : Machine

-- What a row touches, over what the earlier rows left.
abbrev pub RowEffect : Type 0
RowEffect = Machine → Result (List (Touch Entry)) Fault

-- What a phase's rows touch. Outer refusals come before any row; what a phase prunes at its end is its last row.
abbrev pub Effect : Type 0
Effect = World → Result (List RowEffect) Fault
