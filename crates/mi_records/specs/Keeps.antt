-- What every call leaves of a plan. (This project's own.)
use Rattle.std.specs.Prelude.{◌≡◌, ℕ, List}
use Rattle.mi_text.specs.Maps.{Map}
use Rattle.mi_image.specs.Items.{AreThere}
use Rattle.mi_image.specs.Overlays.{former_items, present_items}
use Rattle.mi_steps.specs.declared.plan.Plan.{Plan}
use Rattle.mi_steps.specs.Follows.{Grows}

-- The bytes of files stay there, what stood before the plan stays, and the script only grows.
pub record Keeps (before after : Plan) : Type 0 where
  pub there : (held files : Map (List ℕ)) → AreThere held files (present_items before.overlay) → AreThere held files (present_items after.overlay)
  pub former : former_items after.overlay ≡ former_items before.overlay
  pub grows : Grows before.script after.script
