-- What phases ask of what an action sees. (Component Table; Feature Table; REINSTALLMODE Property.)
use Rattle.std.specs.Prelude.{◌≡◌, ℕ, Bool, List}
use Rattle.mi_text.specs.Maps.{Name}
use Rattle.mi_text.specs.Lookups.{Lookups}
use Rattle.mi_dirs.specs.Places.{Place, Folder}
use Rattle.mi_fver.specs.declared.mode.Mode.{Mode}
use Rattle.mi_schema.specs.declared.package.Package.{Package}
use Rattle.mi_schema.specs.declared.typed_rows.ComponentRow.{ComponentRow}
use Rattle.mi_schema.specs.RowsOf.{rows_in}
use Rattle.mi_model.specs.World.{World}
use Rattle.mi_model.specs.Asked.{comes, leaves, keeps, lookups, chosen, dirs_of}
use Rattle.mi_model.specs.ComponentRows.{is_local, action_in, has_mode}
use Rattle.mi_model.specs.Components.{is_made_absent}
use Rattle.mi_model.specs.ClientRows.{found_path}
use Rattle.mi_model.specs.FileVersions.{chosen_mode, component_is_present}
use Rattle.mi_model.specs.Prune.{system_folders}

-- of components by their names: which come, which leave, which are kept, which are made local or taken away, which were present, and
-- the key paths as CostFinalize found them; the letters of REINSTALLMODE; the features that are local after the run; the directories as
-- they stand; the moment that new files carry, in seconds; and the folders that properties of the system name
pub record Choices : Type 0 where
  pub coming : Name → Bool
  pub leaving : Name → Bool
  pub kept : Name → Bool
  pub local : Name → Bool
  pub absent : Name → Bool
  pub present : Name → Bool
  pub found : Name → List ℕ
  pub mode : Mode
  pub local_after : List Name
  pub dirs : List Place
  pub moment : ℕ
  pub system : List Folder

-- an action that sees this world asks so
pub record IsAsked (L : Lookups) (c : Choices) (p : Package) (w : World) : Type 0 where
  pub lookups : lookups w ≡ L
  pub rows : w.given.rows ≡ rows_in p
  pub coming : (name : Name) → comes w name ≡ c.coming name
  pub leaving : (name : Name) → leaves w name ≡ c.leaving name
  pub kept : (name : Name) → keeps w name ≡ c.kept name
  pub local : (name : Name) → is_local w name ≡ c.local name
  pub absent : (name : Name) → is_made_absent (action_in w name) ≡ c.absent name
  pub found : (r : ComponentRow) → found_path w r ≡ c.found r.component
  pub present : (name : Name) → component_is_present w name ≡ c.present name
  pub mode : (letter : Mode → Bool) → has_mode letter w ≡ letter c.mode
  pub local_after : chosen w (λ s. s.local_after) ≡ c.local_after
  pub letters : chosen_mode w ≡ c.mode
  pub dirs : dirs_of w ≡ c.dirs
  pub moment : w.given.now ≡ c.moment
  pub system : system_folders w ≡ c.system
