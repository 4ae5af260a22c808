-- What calls leave that copy files of the source. (This project's own.)
use Rattle.std.specs.Prelude.{◌≡◌, ℕ, List, ◌++◌, All}
use Rattle.mi_text.specs.Maps.{Map}
use Rattle.mi_source.specs.Paths.{Files}
use Rattle.mi_image.specs.Items.{AreThere}
use Rattle.mi_image.specs.Overlays.{former_items, present_items}
use Rattle.mi_script.specs.declared.rec.Rec.{Rec}
use Rattle.mi_runner.specs.Records.{HasLength}
use Rattle.mi_steps.specs.declared.plan.Plan.{Plan}
use Rattle.mi_steps.specs.Follows.{Grows}

-- what stood before the plan stays, and the script only grows
pub record GrowsOn (before after : Plan) : Type 0 where
  pub former : former_items after.overlay ≡ former_items before.overlay
  pub grows : Grows before.script after.script

-- over these files the bytes of files stay there
abbrev pub StaysThere : Map (List ℕ) → Map (List ℕ) → Plan → Plan → Type 0
StaysThere held files before after = AreThere held files (present_items before.overlay) → AreThere held files (present_items after.overlay)

-- what was added to a script copies files of the source whole, with as many bytes as its records state
abbrev pub AddsWhole : Files → List Rec → List Rec → Type 0
AddsWhole files had has = (more : List Rec) → has ≡ had ++ more → All (HasLength files) more
