-- Where the walk stands: what may be planned there. (Suggested InstallExecuteSequence.)
use Rattle.std.specs.Prelude.{◌≡◌, ◌≤◌, ◌+◌, ℕ, Bool, true, false, List, [], ◌∷◌, ◌++◌, map, codes, if◌then◌else◌, Some, None}
use Rattle.mi_text.specs.Maps.{Name, Map, same_name, is_among}
use Rattle.mi_schema.specs.declared.package.Package.{Package}
use Rattle.mi_schema.specs.Lawful.{IsLawful}
use Rattle.mi_image.specs.Items.{AreThere}
use Rattle.mi_image.specs.Overlays.{former_items, present_items}
use Rattle.mi_source.specs.Paths.{Files}
use Rattle.mi_model.specs.World.{Given}
use Rattle.mi_model.specs.Sequence.{is_costed}
use Rattle.mi_seq.specs.declared.step.Step.{Step}
use Rattle.mi_seq.specs.declared.step.Step.TheVariants as step
use Rattle.mi_seq.specs.declared.walk.Walk.{Walk}
use Rattle.mi_seq.specs.declared.error.SeqError.{SeqError}
use Rattle.mi_seq.specs.declared.error.SeqError.TheVariants as seq
use Rattle.mi_seq.specs.Meaning.{action_of}
use Rattle.mi_seq.specs.Walks.{rest, Stands}
use Rattle.mi_world.specs.declared.seen.Seen.{Seen}
use Rattle.mi_world.specs.declared.world.World.{World}
use Rattle.mi_world.specs.Seen.{IsOf, IsCosted, IsUncosted, IsRow}
use Rattle.mi_plan.specs.declared.work.Work.{Work}
use Rattle.mi_plan.specs.declared.turn.Turn.{Turn}
use Rattle.mi_plan.specs.declared.turn.Turn.TheVariants.{Went, Ended}
use Rattle.mi_base.specs.declared.answers.Cause.TheVariants.{Table}
use Rattle.mi_plan.specs.Made.{with_action}
use Rattle.mi_plan.specs.Nexts.{Row}
use Rattle.mi_plan.specs.Turns.{Steps}
use Rattle.mi_plan.specs.Lengths.{HaveLengths}
use Rattle.mi_plan.specs.Refusals.{EndsRight}

-- ---- where it stands

-- the machine is the former one
abbrev pub IsUnchanged : World → Type 0
IsUnchanged w = present_items w.plan.overlay ≡ former_items w.plan.overlay

abbrev pub is_initialized : List Name → Bool
is_initialized begun = is_among (codes "InstallInitialize") begun

-- There are directories and a selection from CostFinalize on, which comes before InstallInitialize; before that nothing changes.
pub record IsStaged (begun : List Name) (w : World) : Type 0 where
  pub uncosted : is_costed begun ≡ false → IsUncosted w.seen
  pub costed : is_costed begun ≡ true → IsCosted w.seen
  pub order : is_initialized begun ≡ true → is_costed begun ≡ true
  pub unchanged : is_initialized begun ≡ false → IsUnchanged w

-- how many of these actions are CostFinalize
abbrev pub how_many : List Name → ℕ
how_many [] = 0
how_many (n ∷ names) = (if same_name (codes "CostFinalize") n then 1 else 0) + how_many names

abbrev pub actions : List Row → List Name
actions rows = map (λ (r : Row). r.action) rows

-- how often CostFinalize is begun or still to come
abbrev pub costs : List Name → List Row → ℕ
costs begun rows = how_many begun + how_many (actions rows)

-- the package is lawful
pub record IsRight (p : Package) : Type 0 where
  pub lawful : IsLawful p

-- what is seen is of some walk
abbrev pub IsOfSome : Seen → Type 0
IsOfSome s = (g : Given) × IsOf g s

-- Nothing is planned yet.
pub record IsFresh (w : World) : Type 0 where
  pub right : IsRight w.seen.loaded
  pub of : IsOfSome w.seen
  pub uncosted : IsUncosted w.seen
  pub unchanged : IsUnchanged w
  pub script : w.plan.script ≡ []

-- The loop may go on.
pub record IsReady (k : Work) (w : Walk) : Type 0 where
  pub right : IsRight k.world.seen.loaded
  pub of : IsOfSome k.world.seen
  pub staged : IsStaged k.begun.items k.world
  pub stands : Stands w k.begun.items
  pub once : costs k.begun.items (rest k.world.seen.loaded w) ≤ 1

-- ---- steps

-- a step may be taken
abbrev pub MayTake : Step → World → Type 0
MayTake step.Cost w = IsUncosted w.seen × IsUnchanged w
MayTake (step.Phase p) w = IsCosted w.seen
MayTake (step.SetDir action dir text) w = IsCosted w.seen × IsRow w.seen dir
MayTake other w = Unit {0}

abbrev pub is_cost : Step → Bool
is_cost step.Cost = true
is_cost other = false

abbrev pub is_phase : Step → Bool
is_phase (step.Phase p) = true
is_phase other = false

-- it adds records to the open script, or begins a new one
abbrev pub writes_script : Step → Bool
writes_script (step.Phase p) = true
writes_script (step.Execute action) = true
writes_script step.Finalize = true
writes_script other = false

-- what a step that was taken leaves
pub record Leaves (s : Step) (old new : World) : Type 0 where
  pub loaded : new.seen.loaded ≡ old.seen.loaded
  pub of : (g : Given) → IsOf g old.seen → IsOf g new.seen
  pub costs : is_cost s ≡ true → IsOfSome old.seen → IsCosted new.seen
  pub costed : IsOfSome old.seen → IsCosted old.seen → IsCosted new.seen
  pub uncosted : is_cost s ≡ false → IsUncosted old.seen → IsUncosted new.seen
  pub present : is_phase s ≡ false → present_items new.plan.overlay ≡ present_items old.plan.overlay
  pub script : writes_script s ≡ false → new.plan.script ≡ old.plan.script

-- what the image says of contents is there still
abbrev pub StaysThere : Map (List ℕ) → Files → World → World → Type 0
StaysThere held files old new = AreThere held files (present_items old.plan.overlay) → AreThere held files (present_items new.plan.overlay)

-- What a step that isn't the end has made of all; `volume` and `source` say that this device tells what it holds.
pub record IsDone (volume source : Type 0) (held : Map (List ℕ)) (files : Files) (folder : Name) (s : Step) (old new : Work) (t : Turn) : Type 0 where
  pub steps : volume → source → Steps held files folder s old new t
  pub there : volume → source → t ≡ Went → StaysThere held files old.world new.world
  pub lengths : source → HaveLengths files old Went → HaveLengths files new t
  pub ends : EndsRight t
  pub begun : new.begun.items ≡ old.begun.items ++ action_of s ∷ []
  pub leaves : t ≡ Went → Leaves s old.world new.world
  pub former : former_items new.world.plan.overlay ≡ former_items old.world.plan.overlay

-- The turn of a step.
abbrev pub IsStepped : Type 0 → Type 0 → Map (List ℕ) → Files → Name → Step → Work → Work → Turn → Type 0
IsStepped volume source held files folder step.End old new t = (t ≡ Ended None) × (new ≡ old)
IsStepped volume source held files folder other old new t = IsDone volume source held files folder other old new t

-- ---- where the walk has no next step

abbrev pub IsRefusedBy : SeqError → Turn → Type 0
IsRefusedBy (seq.Refused action fault) t = t ≡ Ended (Some (Table fault))
IsRefusedBy seq.NoMemory t = ⊥

abbrev pub with_refused : List Name → SeqError → List Name
with_refused begun (seq.Refused action fault) = with_action begun action
with_refused begun seq.NoMemory = begun
