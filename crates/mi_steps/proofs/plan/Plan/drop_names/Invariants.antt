use Rattle.std.proofs.Common.{◌≡◌, List, ℕ, map, take}
use Rattle.mi_text.specs.Maps.{Map}
use Rattle.mi_image.specs.Items.{AreThere}
use Rattle.mi_image.specs.Overlays.{former_items, present_items}
use Rattle.mi_steps.specs.Follows.{Grows, drop_touch}
use Rattle.mi_steps.specs.Makes.{Makes}
use Rattle.mi_steps.proofs.plan.Plan.drop_names.Given as goal

abbrev pub invariant-loop-name : goal.invariant-loop-name
invariant-loop-name l = record {
  makes : (held files : Map (List ℕ)) → Makes held files l.fn.self l.self (map drop_touch (take l.name-index l.names));
  there : (held files : Map (List ℕ)) → AreThere held files (present_items l.fn.self.overlay) → AreThere held files (present_items l.self.overlay);
  former : former_items l.self.overlay ≡ former_items l.fn.self.overlay;
  grows : Grows l.fn.self.script l.self.script;
}
