use Rattle.std.proofs.Common.{List, ℕ, map, take}
use Rattle.mi_text.specs.Maps.{Map}
use Rattle.mi_model.specs.World.{World}
use Rattle.mi_steps.specs.Makes.{plan_machine}
use Rattle.mi_steps.specs.Rows.{FollowsRows}
use Rattle.mi_records.specs.Choices.{IsAsked}
use Rattle.mi_records.specs.Keeps.{Keeps}
use Rattle.mi_records.specs.Removing.{Guards}
use Rattle.mi_model.specs.Shortcuts.{is_guarded_shortcut}
use Rattle.mi_records.specs.Order.{as_numbered}
use Rattle.mi_shortcuts.specs.Entries.{remove_effect}
use Rattle.mi_shortcuts.proofs.uncreate.remove_rows.Given as goal

abbrev pub invariant-loop-row : goal.invariant-loop-row
invariant-loop-row g l = record {
  rows : (held files : Map (List ℕ)) (w : World) → IsAsked (g.S.Env.lookups l.seen) (g.S.Sees.choices l.seen) (g.S.Sees.rows l.seen) w → Guards l.guards (is_guarded_shortcut w)
      → FollowsRows files (plan_machine held files l.fn.plan) (plan_machine held files l.plan) l.fn.plan.script l.plan.script (map (λ r. remove_effect w (as_numbered r)) (take l.row-index l.rows));
  keeps : Keeps l.fn.plan l.plan;
}
