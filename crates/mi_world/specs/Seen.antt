-- What an action sees, as the program keeps it, and the world that it means. (InstallExecuteSequence Table; CostFinalize Action;
-- Formatted; Conditional Statement Syntax.)
use Rattle.std.specs.Prelude.{◌≡◌, ℕ, ℤ, negsuc, List, [], map, Option, Some, None, option_map, option_and_then, unwrap_or, IsSome, Result, Ok, Err}
use Rattle.std.specs.Result.{result_ok}
use Rattle.std.specs.FinMap.{get}
use Rattle.mi_text.specs.Maps.{Name, Map}
use Rattle.mi_text.specs.Path.{folder_of}
use Rattle.mi_text.specs.Lookups.{Lookups}
use Rattle.mi_text.specs.declared.env.Sign.{Sign}
use Rattle.mi_text.specs.declared.env.Sign.TheVariants.{Action as ActionSign, Installed as InstalledSign, FeatureAction as FeatureActionSign, FeatureInstalled as FeatureInstalledSign}
use Rattle.mi_base.specs.declared.answers.Fault.{Fault}
use Rattle.mi_base.specs.Machine.{Machine}
use Rattle.mi_source.specs.Paths.{Files}
use Rattle.mi_props.specs.Props.{Values, value_in}
use Rattle.mi_dirs.specs.declared.fault.DirFault.{DirFault}
use Rattle.mi_dirs.specs.Places.{Place, row_of, with_own}
use Rattle.mi_dirs.specs.Faults.{path_fault, judged}
use Rattle.mi_schema.specs.declared.package.Package.{Package}
use Rattle.mi_schema.specs.declared.typed_rows.DirectoryRow.{DirectoryRow}
use Rattle.mi_schema.specs.RowsOf.{rows_in}
use Rattle.mi_schema.specs.TableRows.{Rows}
use Rattle.mi_model.specs.World as model
use Rattle.mi_model.specs.World.{Given, Costed, Selection}
use Rattle.mi_model.specs.States.{named, action_state, request_state, installed_state}
use Rattle.mi_model.specs.Properties.{first_properties, in_table, with_directories}
use Rattle.mi_steps.specs.declared.plan.Plan.{Plan}
use Rattle.mi_steps.specs.Makes.{plan_machine}
use Rattle.mi_world.specs.declared.error.WorldError.{WorldError}
use Rattle.mi_world.specs.declared.error.WorldError.TheVariants as error
use Rattle.mi_world.specs.declared.known.Known.{Known}
use Rattle.mi_world.specs.declared.placed.Placed.{Placed}
use Rattle.mi_world.specs.declared.seen.Seen.{Seen}
use Rattle.mi_world.specs.Variables.{variable_in}
use Rattle.mi_world.specs.Places.{kept_folder, AreKeptPaths}
use Rattle.mi_world.specs.Known.{IsKnown}

-- ---- what is looked up

-- states by what is kept; -1 while nothing is selected
abbrev pub kept_state : Known → Option Selection → Sign → Name → ℤ
kept_state k None sign key = negsuc 0
kept_state k (Some s) ActionSign key = action_state (named key s.actions)
kept_state k (Some s) InstalledSign key = installed_state (get k.present key)
kept_state k (Some s) FeatureActionSign key = request_state (named key s.requests)
kept_state k (Some s) FeatureInstalledSign key = installed_state (get k.recorded key)

-- all look-ups, by what is kept
abbrev pub seen_lookups : Seen → Lookups
seen_lookups s = record {
  property = value_in s.props;
  variable = variable_in s.known.variables;
  file = λ key. unwrap_or (option_and_then (λ (p : Placed). get p.files key) s.placed) [];
  folder = λ key. unwrap_or (option_and_then (λ (p : Placed). kept_folder s.known.directories p.dirs key) s.placed) [];
  state = kept_state s.known s.selection;
}

-- ---- what it means

-- the directories, and none before CostFinalize
abbrev pub dirs_in : Seen → Option (List Place)
dirs_in s = option_map (λ (p : Placed). p.dirs) s.placed

abbrev pub costed_of : Option Placed → Option Selection → Option Costed
costed_of (Some p) (Some choice) = Some (record { dirs = p.dirs; choice = choice })
costed_of p choice = None

-- the world that an action sees and a plan mean, over the map that was scanned and the source's files
abbrev pub world_over : Map (List ℕ) → Files → Given → Seen → Plan → model.World
world_over held files g s plan = record { given = g; props = s.props; costed = costed_of s.placed s.selection; machine = plan_machine held files plan }

-- ---- what it is told of

-- each file's path by the directories, and a directory for each row, in order
pub record IsPlaced (rows : Rows) (k : Known) (p : Placed) : Type 0 where
  pub files : AreKeptPaths k.directories p.dirs rows.file 0 p.files
  pub keys : map (λ (d : Place). d.key) p.dirs ≡ map (λ (r : DirectoryRow). r.directory) rows.directory

abbrev pub ArePlaced : Rows → Known → Option Placed → Type 0
ArePlaced rows k None = Unit {0}
ArePlaced rows k (Some p) = IsPlaced rows k p

-- what is kept is what a walk is over
pub record Knows (g : Given) (s : Seen) : Type 0 where
  pub rows : rows_in s.loaded ≡ g.rows
  pub now : s.moment ≡ g.now
  pub known : IsKnown g.rows g.former s.known
  pub placed : ArePlaced g.rows s.known s.placed

-- directories and a selection, or neither
abbrev pub AreBoth : Option Placed → Option Selection → Type 0
AreBoth (Some p) (Some choice) = Unit {0}
AreBoth None None = Unit {0}
AreBoth p choice = ⊥

-- It sees what a walk over this is over.
pub record IsOf (g : Given) (s : Seen) : Type 0 where
  pub knows : Knows g s
  pub both : AreBoth s.placed s.selection

-- CostFinalize was carried out
abbrev pub IsCosted : Seen → Type 0
IsCosted s = IsSome s.placed × IsSome s.selection

-- it wasn't carried out yet
abbrev pub IsUncosted : Seen → Type 0
IsUncosted s = (s.placed ≡ None) × (s.selection ≡ None)

-- a row of Directory has this key
abbrev pub IsRow : Seen → Name → Type 0
IsRow s directory = IsSome (option_and_then (λ dirs. row_of dirs directory) (dirs_in s))

-- ---- what calls leave

-- the directories are the answer, the files' paths and the properties of directories are by them, and else all is as it was
pub record Moved (rows : Rows) (answer : Result (List Place) DirFault) (old new : Seen) : Type 0 where
  pub placed : Placed
  pub is : new.placed ≡ Some placed
  pub dirs : answer ≡ Ok placed.dirs
  pub files : AreKeptPaths old.known.directories placed.dirs rows.file 0 placed.files
  pub props : new.props ≡ with_directories rows placed.dirs old.props
  pub loaded : new.loaded ≡ old.loaded
  pub known : new.known ≡ old.known
  pub moment : new.moment ≡ old.moment
  pub selection : new.selection ≡ old.selection

abbrev pub HaveMoved : {X : Type 0} → Result X WorldError → Rows → Result (List Place) DirFault → Seen → Seen → Type 0
HaveMoved (Ok x) rows answer old new = Moved rows answer old new
HaveMoved (Err error.NoMemory) rows answer old new = Unit {0}
HaveMoved (Err (error.Fault fault)) rows answer old new = in_table answer ≡ Err fault

-- the directories where this is the target of one of them
abbrev pub with_target : Name → List ℕ → List Place → Result (List Place) DirFault
with_target directory text dirs = let moved = with_own directory (result_ok (folder_of text)) dirs in judged moved (path_fault moved)

abbrev pub AreMoved : {X : Type 0} → Result X WorldError → Result (List Place) DirFault → List Place → Type 0
AreMoved (Ok x) answer dirs = answer ≡ Ok dirs
AreMoved (Err error.NoMemory) answer dirs = Unit {0}
AreMoved (Err (error.Fault fault)) answer dirs = in_table answer ≡ Err fault

-- a walk over this begins with these
pub record Starts (g : Given) (loaded : Package) (first : Values) (m : Machine) (moment : ℕ) : Type 0 where
  pub rows : rows_in loaded ≡ g.rows
  pub props : first ≡ first_properties g
  pub former : m ≡ g.former
  pub now : moment ≡ g.now

-- the answer of the model is this world, or exactly this fault; want of memory alone is free
abbrev pub Becomes : {X : Type 0} → Result X WorldError → Result model.World Fault → model.World → Type 0
Becomes (Ok x) answer w = answer ≡ Ok w
Becomes (Err error.NoMemory) answer w = Unit {0}
Becomes (Err (error.Fault fault)) answer w = answer ≡ Err fault
