-- What CostFinalize finds, and what it leaves. (CostFinalize Action.)
use Rattle.std.specs.Prelude.{◌≡◌, List, map, Option, Some, Result, Ok, Err}
use Rattle.mi_base.specs.declared.answers.Fault.{Fault}
use Rattle.mi_dirs.specs.Places.{Place}
use Rattle.mi_schema.specs.declared.typed_rows.DirectoryRow.{DirectoryRow}
use Rattle.mi_schema.specs.RowsOf.{rows_in}
use Rattle.mi_model.specs.World.{Selection}
use Rattle.mi_model.specs.Properties.{with_directories}
use Rattle.mi_world.specs.declared.error.WorldError.{WorldError}
use Rattle.mi_world.specs.declared.error.WorldError.TheVariants as error
use Rattle.mi_world.specs.declared.placed.Placed.{Placed}
use Rattle.mi_world.specs.declared.seen.Seen.{Seen}
use Rattle.mi_world.specs.Places.{AreKeptPaths}

-- ---- what it finds

-- the answer is exactly this, or exactly this fault; want of memory alone is free
abbrev pub Finds : {X : Type 0} → Result X WorldError → Result X Fault → Type 0
Finds (Ok x) answer = answer ≡ Ok x
Finds (Err error.NoMemory) answer = Unit {0}
Finds (Err (error.Fault fault)) answer = answer ≡ Err fault

-- the same of the directories that are placed
abbrev pub Places : Result Placed WorldError → Result (List Place) Fault → Type 0
Places (Ok p) answer = answer ≡ Ok p.dirs
Places (Err error.NoMemory) answer = Unit {0}
Places (Err (error.Fault fault)) answer = answer ≡ Err fault

-- the same of the selection that is there afterwards
abbrev pub Chooses : {X : Type 0} → Result X WorldError → Result Selection Fault → Option Selection → Type 0
Chooses (Ok x) answer chosen = (choice : Selection) → chosen ≡ Some choice → answer ≡ Ok choice
Chooses (Err error.NoMemory) answer chosen = Unit {0}
Chooses (Err (error.Fault fault)) answer chosen = answer ≡ Err fault

-- ---- what it leaves

-- with these directories and the files' paths by them
abbrev pub with_placed : Placed → Seen → Seen
with_placed p s = record s { placed = Some p }

-- with this selection, and the properties of these directories
abbrev pub with_choice : List Place → Selection → Seen → Seen
with_choice dirs choice s = record s { props = with_directories (rows_in s.loaded) dirs s.props; selection = Some choice }

-- directories, one for each row in order, with the files' paths and the properties by them, and a selection; and else all is as it was
pub record IsCostedFrom (old new : Seen) : Type 0 where
  pub placed : Placed
  pub choice : Selection
  pub is : new ≡ with_choice placed.dirs choice (with_placed placed old)
  pub files : AreKeptPaths old.known.directories placed.dirs (rows_in old.loaded).file 0 placed.files
  pub keys : map (λ (d : Place). d.key) placed.dirs ≡ map (λ (r : DirectoryRow). r.directory) (rows_in old.loaded).directory
