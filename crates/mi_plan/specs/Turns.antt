-- What a turn of the loop over the walk does: a row is begun, and its action does its step. (InstallExecuteSequence Table.)
use Rattle.std.specs.Prelude.{◌≡◌, ℕ, List, [], ◌∷◌, ◌++◌, map}
use Rattle.mi_text.specs.Maps.{Name, Map}
use Rattle.mi_source.specs.Paths.{Files}
use Rattle.mi_script.specs.declared.rec.Rec.{Rec}
use Rattle.mi_image.specs.Items.{machine_over, AreThere}
use Rattle.mi_image.specs.Overlays.{former_items, present_items}
use Rattle.mi_model.specs.World.{Given, World}
use Rattle.mi_model.specs.Properties.{started}
use Rattle.mi_model.specs.Walk.{walk}
use Rattle.mi_model.specs.Plans.{Planned}
use Rattle.mi_model.specs.Planning.{Walking, IsPlan}
use Rattle.mi_seq.specs.declared.walk.Walk.{Walk}
use Rattle.mi_seq.specs.declared.step.Step.{Step as TheStep}
use Rattle.mi_seq.specs.Meaning.{meant, action_of}
use Rattle.mi_seq.specs.Walks.{rest}
use Rattle.mi_world.specs.declared.world.World.{World as TheWorld}
use Rattle.mi_world.specs.Seen.{world_over, IsOf}
use Rattle.mi_plan.specs.declared.turn.Turn.{Turn}
use Rattle.mi_plan.specs.declared.turn.Turn.TheVariants.{Went, Ended}
use Rattle.mi_plan.specs.declared.work.Work.{Work}
use Rattle.mi_plan.specs.Nexts.{Row, IsNext}
use Rattle.mi_plan.specs.Made.{as_planned}

-- A row was begun: the walk goes on behind it, or it is planned whole.
abbrev pub IsBegun : Files → Given → List Row → World → List Name → List Planned → List Rec → Turn → Type 0
IsBegun files g rows w names plans records Went = Walking files g rows w names plans records
IsBegun files g rows w names plans records (Ended why) = IsPlan files (walk g) names plans why

-- ---- the program's

-- the world, over the map that was scanned and the source's files
abbrev pub world_of : Map (List ℕ) → Files → Given → Work → World
world_of held files g k = world_over held files g k.world.seen k.world.plan

abbrev pub planned_of : Work → List Planned
planned_of k = map as_planned k.segments.items

-- What is planned so far is a walk so far, over this.
pub record IsSoFar (held : Map (List ℕ)) (files : Files) (g : Given) (k : Work) (w : Walk) : Type 0 where
  pub of : IsOf g k.world.seen
  pub former : machine_over held files (former_items k.world.plan.overlay) ≡ g.former
  pub handed : g.files ≡ files
  pub contents : AreThere held files (present_items k.world.plan.overlay)
  pub walking : Walking files g (rest k.world.seen.loaded w) (world_of held files g k) k.begun.items (planned_of k) k.world.plan.script

-- The world is the one before any action of a walk over this.
pub record IsStart (held : Map (List ℕ)) (files : Files) (g : Given) (w : TheWorld) : Type 0 where
  pub of : IsOf g w.seen
  pub former : machine_over held files (former_items w.plan.overlay) ≡ g.former
  pub world : world_over held files g w.seen w.plan ≡ started g
  pub handed : g.files ≡ files
  pub contents : AreThere held files (present_items w.plan.overlay)
  pub script : w.plan.script ≡ []

-- The walk goes on, or is planned whole.
abbrev pub IsTurned : Map (List ℕ) → Files → Given → Work → Walk → Turn → Type 0
IsTurned held files g k w Went = IsSoFar held files g k w
IsTurned held files g k w (Ended why) = IsPlan files (walk g) k.begun.items (planned_of k) why

-- ---- steps

-- the walk is over this, whose files are the source's, and what the image says of contents is there
pub record IsOver (held : Map (List ℕ)) (files : Files) (g : Given) (folder : Name) (w : TheWorld) : Type 0 where
  pub of : IsOf g w.seen
  pub former : machine_over held files (former_items w.plan.overlay) ≡ g.former
  pub there : folder ≡ g.folder
  pub handed : g.files ≡ files
  pub contents : AreThere held files (present_items w.plan.overlay)

-- Whatever row of whatever walk it is that has this step, it was begun so.
abbrev pub Begins : Map (List ℕ) → Files → Name → TheStep → TheWorld → TheWorld → Turn → Type 0
Begins held files folder s old new t =
    (g : Given) (rows : List Row) (row : Row) (behind : List Row) (names : List Name) (plans : List Planned)
    → IsOver held files g folder old → action_of s ≡ row.action
    → IsNext files g rows row behind (world_over held files g old.seen old.plan) names plans old.plan.script (meant s)
    → IsBegun files g behind (world_over held files g new.seen new.plan) (names ++ row.action ∷ []) plans new.plan.script t

-- the same behind the beginning of its action
abbrev pub Takes : Map (List ℕ) → Files → Name → TheStep → Work → Work → Turn → Type 0
Takes held files folder s old new t =
    (g : Given) (rows : List Row) (row : Row) (behind : List Row) (names : List Name)
    → IsOver held files g folder old.world → action_of s ≡ row.action → old.begun.items ≡ names ++ row.action ∷ []
    → IsNext files g rows row behind (world_of held files g old) names (planned_of old) old.world.plan.script (meant s)
    → IsBegun files g behind (world_of held files g new) new.begun.items (planned_of new) new.world.plan.script t

-- the same from before it
abbrev pub Steps : Map (List ℕ) → Files → Name → TheStep → Work → Work → Turn → Type 0
Steps held files folder s old new t =
    (g : Given) (rows : List Row) (row : Row) (behind : List Row)
    → IsOver held files g folder old.world → action_of s ≡ row.action
    → IsNext files g rows row behind (world_of held files g old) old.begun.items (planned_of old) old.world.plan.script (meant s)
    → IsBegun files g behind (world_of held files g new) new.begun.items (planned_of new) new.world.plan.script t
