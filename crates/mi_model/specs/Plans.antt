-- What a plan call has made of a phase, and a planned segment of a part of the walk. (This project's own.)
use Rattle.std.specs.Prelude.{◌≡◌, ℕ, List, [], ◌∷◌, ◌++◌, Ok}
use Rattle.std.specs.List.{flat_map}
use Rattle.mi_base.specs.declared.entry.Entry.{Entry}
use Rattle.mi_base.specs.Machine.{Machine, volume_of}
use Rattle.mi_source.specs.Paths.{Files}
use Rattle.mi_changes.specs.Touches.{Touch}
use Rattle.mi_changes.specs.Changes.{changes}
use Rattle.mi_script.specs.declared.rec.Rec.{Rec}
use Rattle.mi_script.specs.Scripts.{script_changes}
use Rattle.mi_script.specs.Spelled.{spelled_changes}
use Rattle.mi_model.specs.World.{World, Effect}
use Rattle.mi_model.specs.PhaseRows.{Touches, phase_rows, after_rows}
use Rattle.mi_model.specs.Walk.{Part}
use Rattle.mi_model.specs.StatedSizes.{StateSizes}

-- the touches of rows, in order
abbrev pub all_touches : List Touches → List (Touch Entry)
all_touches rows = flat_map (λ (row : Touches). row) rows

-- The records spell what the rows change over this machine, with this source, and state the sizes that this gives.
pub record Spells (files : Files) (m : Machine) (rows : List Touches) (records : List Rec) : Type 0 where
  pub is : script_changes files (volume_of m) records ≡ spelled_changes (volume_of m) (changes m (all_touches rows))
  pub sizes : StateSizes files (volume_of m) records

-- ---- one plan call

-- After a plan call that was Ok: these rows are the phase's, the script has grown by records that spell them, and the image is the machine after them.
-- `old` and `now` are the machines that the image stands for before and after.
pub record Plans (files : Files) (effect : Effect) (w : World) (now : Machine) (had has : List Rec) : Type 0 where
  pub rows : List Touches
  pub effects : phase_rows effect w ≡ Ok rows
  pub records : List Rec
  pub grows : has ≡ had ++ records
  pub spells : Spells files w.machine rows records
  pub image : now ≡ after_rows w.machine rows

-- ---- a segment

-- A segment that is planned: its script, and how many actions are begun at its end.
pub record Planned : Type 0 where
  pub records : List Rec
  pub reached : ℕ

-- it spells the part of the walk, over the machine that the part begins with
pub record IsPlanned (files : Files) (m : Machine) (p : Part) (planned : Planned) : Type 0 where
  pub spells : Spells files m p.rows planned.records
  pub reached : planned.reached ≡ p.reached

-- part by part, each over the machine that those before it leave
abbrev pub ArePlanned : Files → Machine → List Part → List Planned → Type 0
ArePlanned files m [] [] = Unit {0}
ArePlanned files m (p ∷ parts) (planned ∷ more) = IsPlanned files m p planned × ArePlanned files (after_rows m p.rows) parts more
ArePlanned files m parts more = ⊥
